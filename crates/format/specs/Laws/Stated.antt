-- What questions 3 and 4 ask of a record, the lines ask of it with zeros past its counts; and it has the same text and answers.
use Rattle.std.specs.Prelude.{ℕ, ◌≤◌, ◌<◌, ◌≡◌, refl, true, List, [], ◌∷◌, ◌++◌, map, length, take, get_or, T}
use Rattle.std.proofs.Common.{arith, ap₂, ◌∙◌, length-take-le}
use Rattle.std.proofs.Math.Path.{sym, ap}
use Rattle.std.proofs.Math.Facts.{leb_yes, ltb_yes}
use Rattle.base.specs.Laws.Tests.{passes, parts, every_at}
use Rattle.base.specs.Laws.All.{All, all_head, all_tail, all_mapped, all_of}
use Rattle.policy.specs.declared.Policy.{Policy}
use Rattle.policy.specs.declared.Rule.{Rule}
use Rattle.policy.specs.declared.Query.{Query}
use Rattle.policy.specs.declared.Decisions.{Decisions}
use Rattle.policy.specs.Record.{listed, levels_of, actions_of, rules_of, no_rule, cut_list, cut_rule, Agree, Eights, Sized}
use Rattle.policy.specs.Questions.{rises, level_in_range, action_in_range, list_in_range, rule_in_range, rule_rises, others_in_range, in_range}
use Rattle.policy.specs.Questions.{lists_rise, levels_fit, weights_fit, query_in_range}
use Rattle.policy.specs.Laws.{InRange, in_range_lem, list_fits, rule_fits}
use Rattle.format.specs.Text.{ascii, decimal}
use Rattle.format.specs.Written.{line_of, each, level_text, action_text, rule_text, entries_text}
use Rattle.format.specs.Format.{decisions_of}
use Rattle.format.specs.Entries.{zero_query, record_of}
use Rattle.format.specs.Laws.Cleared.{cleared_rule, cleared}
use Rattle.format.specs.Laws.Lists.{ReadableList, Clear, listed_of}
use Rattle.format.specs.Laws.Records.{ReadableAction, ReadableRule, ReadableQuery}
use Rattle.format.specs.Laws.Policies.{ReadableEntries, ReadablePolicy}
use Rattle.format.specs.Laws.Asked.{list_range, range_action, range_query}
use Rattle.format.specs.Laws.Lookups.{Counted, levels_same, actions_same, rules_same, rule_count, weights_same, levels_fit_same}

-- a list of decisions in an array of 8, in range and rising, can be stated as it is cleared
list_readable : (n : ℕ) (l : Decisions) → length l.at ≡ 8 → T (list_in_range n l) → T (rises (listed l))
    → ReadableList n (listed (decisions_of (listed l)))
unfolding ReadableList
list_readable n l e range rise =
    let count : l.count ≡ length (listed l) = sym (length-take-le l.count l.at (omega (arith, (list_fits n l range).count))) in
    rw listed_of (rw (list_range n l count) at range, rise)

-- a list made of its entries is clear
clear_list : (ds : List ℕ) → Clear (decisions_of ds)
unfolding Clear
clear_list ds = ap decisions_of (sym (listed_of ds))

-- what the questions ask of a rule, the lines ask
rule_readable : (n m : ℕ) (r : Rule) → T (rule_in_range n m r) → T (rule_rises r) → Eights r → ReadableRule n m (cleared_rule r)
unfolding cleared_rule rule_in_range rule_rises
rule_readable n m r range rise eights = record {
  headed = ltb_yes (search parts);
  mask = ltb_yes (search parts);
  ifs_fit = list_readable n r.ifs eights.0 (search parts) (search parts);
  unless_fit = list_readable n r.unless eights.1 (search parts) (search parts);
  ifs_clear = clear_list (listed r.ifs);
  unless_clear = clear_list (listed r.unless);
}

-- what f makes of entries that g changes to what f makes the same of
maps_same : {A B : Type 0} (f : A → B) (g : A → A) (l : List A) → All (λ x. f (g x) ≡ f x) l → map f (map g l) ≡ map f l
maps_same f g [] all = refl
maps_same f g (x ∷ l) all = ap₂ (λ y t. y ∷ t) (all_head all) (maps_same f g l (all_tail all))

-- a list as long as its struct declares, and a rule, are cut as they are cleared
list_cut : (l : Decisions) → length l.at ≡ 8 → l.count ≤ 8 → cut_list (decisions_of (listed l)) ≡ cut_list l
unfolding decisions_of
list_cut l full few = λ i. record { count = length-take-le l.count l.at (omega arith) i; at = listed_of (listed l) i }

rule_cut : (n m : ℕ) (r : Rule) → T (rule_in_range n m r) → Eights r → cut_rule (cleared_rule r) ≡ cut_rule r
unfolding cleared_rule
rule_cut n m r range eights =
    let fits = rule_fits n m r range in
    let ifs = list_cut r.ifs eights.0 fits.ifs.count in
    let unless = list_cut r.unless eights.1 fits.unless.count in
    λ i. record { head = r.head; needs = r.needs; ifs = ifs i; unless = unless i }

-- the text of a rule shows its lists only
rule_text_lem : (r : Rule) → rule_text (cleared_rule r) ≡ rule_text r
unfolding rule_text cleared_rule
rule_text_lem r = rw (listed_of (listed r.ifs), listed_of (listed r.unless))

-- entries changed in what their texts do not show have the same texts
pub texts_same : {A : Type 0} (f : A → List ℕ) (g : A → A) → ((x : A) → f (g x) ≡ f x) → (xs : List A) → each f (map g xs) ≡ each f xs
unfolding each
texts_same f g e [] = refl
texts_same f g e (x ∷ xs) = ap₂ ◌++◌ (e x) (texts_same f g e xs)

-- what question 3 asks of each entry
record EachInRange (p : Policy) : Type 0 where
  levels : All (λ l. l ≤ 15) (levels_of p)
  actions : All (λ a. T (action_in_range p.actions a)) (actions_of p)
  rules : All (λ r. T (rule_in_range p.decisions p.actions r)) (rules_of p)

each_in_range : (p : Policy) → T (in_range p) → EachInRange p
unfolding in_range others_in_range level_in_range
each_in_range p t = record {
  levels = λ l m. leb_yes (every_at level_in_range (levels_of p) (search parts) l m);
  actions = every_at (action_in_range p.actions) (actions_of p) (search parts);
  rules = every_at (rule_in_range p.decisions p.actions) (rules_of p) (search parts);
}

module _ (p : Policy) (sized : Sized p) (range : in_range p ≡ true) (rise : lists_rise p ≡ true) where
  counts : InRange p
  counts = in_range_lem p (passes _ range)

  entries : EachInRange p
  entries = each_in_range p (passes _ range)

  places : Counted p
  places =
      let c = counts in
      record {
        levels = length-take-le p.decisions p.level (omega (arith, sized.levels, c.decisions));
        actions = length-take-le p.actions p.action (omega (arith, sized.actions, c.actions));
        rules = length-take-le p.rules p.rule (omega (arith, sized.rules, c.rules));
      }

  -- what the lines ask of each entry
  actions_readable : All (ReadableAction p.actions) (actions_of p)
  actions_readable a m = range_action p.actions a (entries.actions a m)

  rules_readable : All (ReadableRule p.decisions p.actions) (map cleared_rule (rules_of p))
  unfolding lists_rise
  rules_readable =
      let eights = all_of Eights no_rule p.rule p.rules sized.lists in
      let rises = every_at rule_rises (rules_of p) (passes _ rise) in
      all_mapped (ReadableRule p.decisions p.actions) cleared_rule (rules_of p)
      (λ r m. rule_readable p.decisions p.actions r (entries.rules r m) (rises r m) (eights r m))

  -- the cleared record has the same entries below its counts
  pub agrees : Agree p (cleared p)
  unfolding cleared record_of
  agrees =
      let eights = all_of Eights no_rule p.rule p.rules sized.lists in
      let rules = ap (map cut_rule) (rules_same p places) ∙ maps_same cut_rule cleared_rule (rules_of p)
      (λ r m. rule_cut p.decisions p.actions r (entries.rules r m) (eights r m)) in
      λ i. record {
        decisions = p.decisions;
        actions = p.actions;
        rules = sym (rule_count p places) i;
        level = sym (levels_same p places) i;
        action = sym (actions_same p places) i;
        rule = sym rules i;
      }

  -- it is one that lines can state
  entries_readable : ReadableEntries p.decisions p.actions (cleared p)
  unfolding cleared record_of
  entries_readable = record {
    decisions = refl;
    actions = refl;
    few_rules = omega (arith, rule_count p places, counts.rules);
    level_count = rw (levels_same p places) places.levels;
    action_count = rw (actions_same p places) places.actions;
    rule_count = rw (rules_same p places);
    levels = rw (levels_same p places) entries.levels;
    action = rw (actions_same p places) actions_readable;
    rule = rw (rules_same p places) rules_readable;
    clear = λ i. record_of p.decisions p.actions (sym (levels_same p places) i) (sym (actions_same p places) i)
        (sym (rules_same p places) i);
  }

  pub policy_readable : ReadablePolicy (cleared p)
  unfolding cleared record_of
  policy_readable = record {
    some_decisions = counts.some_decision;
    few_decisions = counts.decisions;
    few_actions = counts.actions;
    entries = entries_readable;
  }

  -- it has the same text after its counts
  pub entries_same : entries_text (cleared p) ≡ entries_text p
  unfolding entries_text cleared record_of
  entries_same = λ i.
      each level_text (levels_same p places i)
      ++ (each action_text (actions_same p places i)
      ++ (line_of (ascii "rules") (decimal (rule_count p places i))
      ++ (ap (each rule_text) (rules_same p places) ∙ texts_same rule_text cleared_rule rule_text_lem (rules_of p)) i))

  -- and the same answers to questions 5 and 6
  pub levels_asked : levels_fit (cleared p) ≡ levels_fit p
  levels_asked = levels_fit_same p places (λ r m. rule_fits p.decisions p.actions r (entries.rules r m))

  pub weights_asked : weights_fit (cleared p) ≡ weights_fit p
  weights_asked = weights_same p places

-- what question 3 asks of each query, the lines ask
pub queries_readable : (p : Policy) (count : ℕ) (qs : List Query)
    → ((i : ℕ) → i < count → query_in_range p (get_or qs i zero_query) ≡ true)
    → All (ReadableQuery p.decisions p.actions) (take count qs)
queries_readable p count qs each_query = all_of (ReadableQuery p.decisions p.actions) zero_query qs count (λ i less.
    range_query p (get_or qs i zero_query) (passes _ (each_query i less)))
