-- The questions look at no entry past a count: of a record and of the record without such entries they are answered alike.
use Rattle.std.specs.Prelude.{ℕ, ◌<◌, Bool, true, false, ◌&&◌, ◌≡◌, refl, get_or, take}
use mathlib.Core.List.{List, ◌∷◌, ◌++◌, map, Memᴰ}
use Rattle.std.proofs.Common.{◌∙◌, ap, le_refl, take-take, get_or-take}
use Rattle.std.proofs.Math.Dec.{T, ltb}
use Rattle.std.proofs.Math.ListN.{get_or-map}
use Rattle.std.specs.List.{list_all}
use Rattle.base.specs.Laws.Lists.{take_map}
use Rattle.base.specs.Laws.Tests.{every_below_same, every_same, every_map, every_at, parts, and_left}
use Rattle.policy.specs.declared.Policy.{Policy}
use Rattle.policy.specs.declared.Action.{Action}
use Rattle.policy.specs.declared.Rule.{Rule}
use Rattle.policy.specs.declared.Decisions.{Decisions}
use Rattle.policy.specs.Record.{no_rule, no_action, listed, levels_of, actions_of, rules_of, rule_of, head_of, level_of, also_of, weight_of}
use Rattle.policy.specs.Record.{cut_list, cut_rule, cut, with_levels}
use Rattle.policy.specs.Questions.{Question, first_no, questions, list_in_range, rule_in_range, rule_rises, levels_below, rule_levels_fit}
use Rattle.policy.specs.Questions.{heavier, outweighs, others_in_range, in_range, lists_rise, levels_fit, weights_fit}
use Rattle.policy.specs.Laws.{ListFits, RuleFits, rule_fits}

-- the entries below a count are those of the cut list
pub listed_cut : (l : Decisions) → listed (cut_list l) ≡ listed l
listed_cut l = take-take l.count l.count l.at (le_refl l.count)

list_range : (n : ℕ) (l : Decisions) → list_in_range n (cut_list l) ≡ list_in_range n l
unfolding list_in_range
list_range n l = rw (listed_cut l)

rule_range : (n m : ℕ) (r : Rule) → rule_in_range n m (cut_rule r) ≡ rule_in_range n m r
unfolding rule_in_range
rule_range n m r = rw (list_range n r.ifs, list_range n r.unless)

rule_rises_lem : (r : Rule) → rule_rises (cut_rule r) ≡ rule_rises r
unfolding rule_rises
rule_rises_lem r = rw (listed_cut r.ifs, listed_cut r.unless)

-- what stands behind a question counts only where it is answered yes
behind : (n : ℕ) (b : Bool) (qs rs : List Question) → (T b → first_no qs ≡ first_no rs)
    → first_no (record { number = n; yes = b } ∷ qs) ≡ first_no (record { number = n; yes = b } ∷ rs)
unfolding first_no
behind n true qs rs e = e tt
behind n false qs rs e = refl

-- decisions below n have their levels below the count n
module _ (level : List ℕ) (n : ℕ) where
  levels_below_lem : (bound : ℕ) (l : Decisions) → ListFits n l → levels_below (take n level) bound (cut_list l) ≡ levels_below level bound l
  unfolding levels_below
  levels_below_lem bound l f = rw (listed_cut l) (every_same (λ d. ltb (get_or (take n level) d 0) bound) (λ d. ltb (get_or level d 0) bound)
      (listed l) (λ d m. rw (get_or-take n level d 0 (f.entries d m))))

  rule_levels : (m : ℕ) (r : Rule) → RuleFits n m r → rule_levels_fit (take n level) (cut_rule r) ≡ rule_levels_fit level r
  unfolding rule_levels_fit
  rule_levels m r f =
      rw (get_or-take n level r.head 0 f.head, levels_below_lem _ r.ifs f.ifs, levels_below_lem _ r.unless f.unless)

rule_fits_cut : (level : List ℕ) (r : Rule) → rule_levels_fit level (cut_rule r) ≡ rule_levels_fit level r
unfolding rule_levels_fit levels_below
rule_fits_cut level r = rw (listed_cut r.ifs, listed_cut r.unless)

action_weights : (action : List Action) (m : ℕ) (a : Action) → outweighs (take m action) m a ≡ outweighs action m a
unfolding outweighs heavier
action_weights action m a = every_below_same m (heavier (take m action) a) (heavier action a) (λ b h. rw (get_or-take m action b no_action h))

module _ (p : Policy) where
  -- the levels, actions and rules that the cut record holds
  pub levels_cut : levels_of (cut p) ≡ levels_of p
  levels_cut = take-take p.decisions p.decisions p.level (le_refl p.decisions)

  pub actions_cut : actions_of (cut p) ≡ actions_of p
  actions_cut = take-take p.actions p.actions p.action (le_refl p.actions)

  pub rules_cut : rules_of (cut p) ≡ map cut_rule (rules_of p)
  rules_cut = take_map cut_rule p.rules (rules_of p)
      ∙ ap (map cut_rule) (take-take p.rules p.rules p.rule (le_refl p.rules))

  -- the parts of its levels, actions and rules, by number
  pub level_cut : (d : ℕ) → d < p.decisions → level_of (cut p) d ≡ level_of p d
  level_cut d h = get_or-take p.decisions p.level d 0 h

  action_cut : (a : ℕ) → a < p.actions → get_or (actions_of p) a no_action ≡ get_or p.action a no_action
  action_cut a h = get_or-take p.actions p.action a no_action h

  pub also_cut : (a : ℕ) → a < p.actions → also_of (cut p) a ≡ also_of p a
  also_cut a h = ap (λ (x : Action). x.also) (action_cut a h)

  pub weight_cut : (a : ℕ) → a < p.actions → weight_of (cut p) a ≡ weight_of p a
  weight_cut a h = ap (λ (x : Action). x.weight) (action_cut a h)

  pub rule_cut : (k : ℕ) → k < p.rules → rule_of (cut p) k ≡ cut_rule (rule_of p k)
  rule_cut k h = get_or-map cut_rule (rules_of p) k no_rule ∙ ap cut_rule (get_or-take p.rules p.rule k no_rule h)

  pub head_cut : (k : ℕ) → k < p.rules → head_of (cut p) k ≡ head_of p k
  head_cut k h = ap (λ (r : Rule). r.head) (rule_cut k h)

  -- a test of each rule
  rules_same : (f g : Rule → Bool) → ((r : Rule) → Memᴰ r (rules_of p) → f (cut_rule r) ≡ g r)
      → list_all f (rules_of (cut p)) ≡ list_all g (rules_of p)
  rules_same f g e = ap (list_all f) rules_cut ∙ every_map f cut_rule (rules_of p) ∙ every_same (λ r. f (cut_rule r)) g (rules_of p) e

  -- question 3
  pub others_cut : others_in_range (cut p) ≡ others_in_range p
  unfolding others_in_range
  others_cut = rw (
    actions_cut,
    rules_same (rule_in_range p.decisions p.actions) (rule_in_range p.decisions p.actions)
        (λ r m. rule_range p.decisions p.actions r),
  )

  range_cut : in_range (cut p) ≡ in_range p
  unfolding in_range
  range_cut = rw (others_cut, levels_cut)

  -- question 4
  pub rise_cut : lists_rise (cut p) ≡ lists_rise p
  unfolding lists_rise
  rise_cut = rules_same rule_rises rule_rises (λ r m. rule_rises_lem r)

  -- question 5, where question 3 is answered yes
  fit_cut : T (in_range p) → levels_fit (cut p) ≡ levels_fit p
  unfolding levels_fit in_range others_in_range
  fit_cut t = rules_same (rule_levels_fit (levels_of p)) (rule_levels_fit p.level) (λ r m.
      let fits : T (list_all (rule_in_range p.decisions p.actions) (rules_of p)) = search parts in
      rule_levels p.level p.decisions p.actions r
      (rule_fits p.decisions p.actions r (every_at (rule_in_range p.decisions p.actions) (rules_of p) fits r m)))

  -- and with levels of which none is cut
  pub fit_with_cut : (level : List ℕ) → levels_fit (with_levels (cut p) level) ≡ levels_fit (with_levels p level)
  unfolding levels_fit
  fit_with_cut level = rules_same (rule_levels_fit level) (rule_levels_fit level) (λ r m. rule_fits_cut level r)

  -- question 6
  weights_cut : weights_fit (cut p) ≡ weights_fit p
  unfolding weights_fit
  weights_cut = rw actions_cut
      (every_same (outweighs (actions_of p) p.actions) (outweighs p.action p.actions) (actions_of p)
      (λ a m. action_weights p.action p.actions a))

  -- the number of the first question answered no, with further questions behind
  pub questions_cut : (rest : Bool) (l l' : List Question) → (T (in_range p) → l ≡ l')
      → first_no (questions (cut p) rest ++ l) ≡ first_no (questions p rest ++ l')
  unfolding questions
  questions_cut rest l l' e = rw range_cut (behind 3 (in_range p && rest) _ _ (λ t.
      rw (rise_cut, fit_cut (and_left (in_range p) rest t), weights_cut, e (and_left (in_range p) rest t))))
