-- "At least j of the first i actions" has a derivation in exactly the worlds that hold at least j of the first i actions.
use Rattle.std.specs.Prelude.{ℕ, zero, suc, ◌-◌, ◌^◌, ◌≤◌, ◌<◌, not, ◌↔◌, ◌≡◌, refl, T}
use mathlib.Core.List.Memᴰ
use mathlib.Core.List.{List, [], ◌∷◌, Memᴰ}
use Rattle.std.proofs.Common.{⊎_elim, sym, ap, subst, ◌∙◌, arith, T_not}
use Rattle.std.proofs.Math.Dec.{eqb-suc-suc, eqb-suc-zero}
use Rattle.std.proofs.Math.ListN.{get_or-append}
use Rattle.base.specs.Counted.{counted}
use Rattle.base.specs.Laws.Counted.{counted_most}
use Rattle.base.specs.Laws.Tests.{is_true, is_false, either, get_or_filled, get_or_in, place_of}
use Rattle.base.specs.Laws.All.{All, all_nil, all_cons, all_head}
use Rattle.base.specs.Lists.{filled}
use Rattle.base.specs.Laws.Lists.{filled_front, filled_length}
use Rattle.mask.specs.Mask.{has, ◌⊆◌}
use Rattle.mask.specs.Laws.{has_none, one_has, one_⊆}
use Rattle.policy.specs.declared.Rule.{Rule}
use Rattle.policy.specs.Record.{no_rule, listed, rules_of, rule_of, head_of, level_of}
use Rattle.model.specs.World.{Enabled}
use Rattle.model.specs.Derivation.{Applies, Derivable}
use Rattle.model.specs.Model.{Model}
use Rattle.model.specs.Laws.Model.{is_model}
use Rattle.format.specs.Entries.{zero_rule, record_of}
use Rattle.format.specs.Laws.Lists.{listed_of}
use Rattle.threshold.specs.AtLeast.{There, number, without, fewer, having, rules_for, rows, at_least, eight}
use Rattle.threshold.specs.Laws.Taken.{rows_length, rules_are, accepted}
use Rattle.threshold.specs.Laws.Numbers.{apart, is_rule, without_in, having_in, rows_at, rows_make}

-- ---- the parts of a rule
before : (i : ℕ) → suc i - 1 ≡ i
before i = omega arith

without_ifs : (i j : ℕ) → listed (without (suc i) j).ifs ≡ number i j ∷ []
unfolding without
without_ifs i j = rw (listed_of, before)

having_first : (i : ℕ) → listed (having i 1).ifs ≡ []
unfolding having fewer
having_first i = listed_of []

having_ifs : (i j : ℕ) → listed (having (suc i) (suc (suc j))).ifs ≡ number i (suc j) ∷ []
unfolding having fewer
having_ifs i j = rw (listed_of, eqb-suc-suc, eqb-suc-zero, before, before)

having_needs : (i j : ℕ) → (having (suc i) j).needs ≡ 2 ^ i
unfolding having
having_needs i j = rw before

-- a rule of a decision has its number as the head, and no unless decision
head_is : (i j : ℕ) (r : Rule) → Memᴰ r (rules_for i j) → r.head ≡ number i j
unfolding without having
head_is i j r m = ⊎_elim (λ e. ap (λ (r : Rule). r.head) e.1) (λ e. ap (λ (r : Rule). r.head) e) (is_rule i j r m)

no_unless : (i j : ℕ) (r : Rule) → Memᴰ r (rules_for i j) → listed r.unless ≡ []
unfolding without having
no_unless i j r m =
    ⊎_elim (λ e. ap (λ (r : Rule). listed r.unless) e.1) (λ e. ap (λ (r : Rule). listed r.unless) e) (is_rule i j r m)
    ∙ listed_of []

-- ---- one action more counts where it is held
counted_with : (w i : ℕ) → T (has w i) → counted (has w) (suc i) ≡ suc (counted (has w) i)
unfolding counted
counted_with w i t = rw (is_true (has w i) t) (omega arith)

counted_without : (w i : ℕ) → T (not (has w i)) → counted (has w) (suc i) ≡ counted (has w) i
unfolding counted
counted_without w i t = rw (is_false (has w i) (T_not (has w i) t)) (omega arith)

counted_grows : (w i : ℕ) → counted (has w) i ≤ counted (has w) (suc i)
unfolding counted
counted_grows w i = omega arith

-- ---- the rules of the policy by their number
rules_of_lem : rules_of at_least ≡ rows 16
unfolding at_least record_of
rules_of_lem = filled_front 256 _ zero_rule (rows 16) refl

rule_in : (k : ℕ) → k < 192 → Memᴰ (rule_of at_least k) (rows 16)
unfolding at_least record_of
rule_in k h = rw rules_of_lem at (get_or_in at_least.rule no_rule at_least.rules k (omega (arith, rules_are))
    (omega (arith, filled_length 256 zero_rule (rows 16) (omega (arith, rows_length)))))

rule_place : (r : Rule) → Memᴰ r (rows 16) → (k : ℕ) × (k < 192) × (rule_of at_least k ≡ r)
unfolding at_least record_of filled
rule_place r m =
    let (k, h, e) = place_of (rows 16) no_rule r m in
    (k, omega (arith, rows_length), get_or-append (rows 16) _ no_rule k h ∙ e)

level_is : (d : ℕ) → level_of at_least d ≡ 0
unfolding at_least record_of filled
level_is d = get_or_filled 128 d 0

module _ (w : ℕ) where
  -- the decisions that have a derivation
  abbrev M : ℕ → Type 0
  M = Derivable at_least w

  model : Model at_least w M
  model = (is_model at_least eight accepted w).model

  -- the head of a rule that applies has a derivation
  apply : (i j : ℕ) (r : Rule) → There i j → Memᴰ r (rules_for i j) → Enabled w r → All M (listed r.ifs) → M r.head
  apply i j r there m on ifs =
      let (k, below, at) = rule_place r (rows_make 16 i j r there.actions there m) in
      subst (λ (r : Rule). M r.head) at (model.closed k (record {
        exists = omega (arith, rules_are);
        enabled = subst (λ (r : Rule). Enabled w r) (sym at) on;
        ifs = subst (λ (r : Rule). All M (listed r.ifs)) (sym at) ifs;
        unless = λ d u. absurd (Memᴰ.not-nil (subst (λ (l : List ℕ). Memᴰ d l)
            (ap (λ (r : Rule). listed r.unless) at ∙ no_unless i j r m) u));
      }))

  -- what the rule without the i-th action gives, and the one with it
  by_without : (i j : ℕ) → There (suc i) j → j ≤ i → M (number i j) → M (number (suc i) j)
  unfolding without
  by_without i j there less m = apply (suc i) j (without (suc i) j) there (without_in (suc i) j (omega arith))
      (λ a t. absurd (has_none a t)) (subst (All M) (sym (without_ifs i j)) (all_cons m (all_nil M)))

  by_having : (i j : ℕ) → There (suc i) j → T (has w i) → All M (listed (having (suc i) j).ifs) → M (number (suc i) j)
  unfolding having
  by_having i j there t ifs = apply (suc i) j (having (suc i) j) there (having_in (suc i) j)
      (subst (λ (x : ℕ). x ⊆ w) (sym (having_needs i j)) (one_⊆ w i t)) ifs

  -- the decision about one action fewer, with j as it is, and with one fewer
  less_there : {i j : ℕ} → There (suc i) j → j ≤ i → There i j
  less_there h less = record { actions = omega (arith, h.actions); some = h.some; eight = h.eight; fits = less }

  fewer_there : {i j : ℕ} → There (suc i) (suc (suc j)) → There i (suc j)
  fewer_there h = record {
    actions = omega (arith, h.actions);
    some = omega arith;
    eight = omega (arith, h.eight);
    fits = omega (arith, h.fits);
  }

  -- a world with at least j of the first i actions derives the decision
  having_derived : (i j : ℕ) → ((k : ℕ) → There i k → k ≤ counted (has w) i → M (number i k)) → There (suc i) j → T (has w i)
      → j ≤ counted (has w) (suc i) → All M (listed (having (suc i) j).ifs)
  having_derived i zero derived there t held = absurd (omega (arith, there.some))
  having_derived i (suc zero) derived there t held = subst (All M) (sym (having_first (suc i))) (all_nil M)
  having_derived i (suc (suc j)) derived there t held = subst (All M) (sym (having_ifs i j))
      (all_cons (derived (suc j) (fewer_there there) (omega (arith, counted_with w i t))) (all_nil M))

  derives : (i j : ℕ) → There i j → j ≤ counted (has w) i → M (number i j)
  derives zero j there held = absurd (omega (arith, there.some, there.fits))
  derives (suc i) j there held = ⊎_elim
      (λ (t : T (has w i)). by_having i j there t (having_derived i j (λ k h l. derives i k h l) there t held))
      (λ (t : T (not (has w i))).
      let same = counted_without w i t in
      let less : j ≤ i = omega (arith, counted_most (has w) i) in
      by_without i j there less (derives i j (less_there there less) (omega arith)))
      (either (has w i))

  -- what a decision says of the world
  abbrev Says : ℕ → Type 0
  Says d = (i j : ℕ) → There i j → number i j ≡ d → j ≤ counted (has w) i

  -- each rule gives a decision that is true, from decisions that are
  says_without : (i j : ℕ) → There (suc i) j → j ≤ i → All Says (listed (without (suc i) j).ifs) → j ≤ counted (has w) (suc i)
  says_without i j there less f =
      let one = all_head (subst (All Says) (without_ifs i j) f) in
      omega (arith, counted_grows w i, one i j (less_there there less) refl)

  says_having : (i j : ℕ) → There (suc i) j → T (has w i) → All Says (listed (having (suc i) j).ifs) → j ≤ counted (has w) (suc i)
  says_having i zero there t f = absurd (omega (arith, there.some))
  says_having i (suc zero) there t f = omega (arith, counted_with w i t)
  says_having i (suc (suc j)) there t f =
      let one = all_head (subst (All Says) (having_ifs i j) f) in
      omega (arith, counted_with w i t, one i (suc j) (fewer_there there) refl)

  says_rule : (i j : ℕ) (r : Rule) → There i j → Memᴰ r (rules_for i j) → Enabled w r → All Says (listed r.ifs)
      → j ≤ counted (has w) i
  says_rule zero j r there m on f = absurd (omega (arith, there.some, there.fits))
  says_rule (suc i) j r there m on f = ⊎_elim
      (λ (e : (j < suc i) × (r ≡ without (suc i) j)). says_without i j there (omega arith)
      (subst (λ (r : Rule). All Says (listed r.ifs)) e.1 f))
      (λ (e : r ≡ having (suc i) j). says_having i j there
      (subst (λ (x : ℕ). x ⊆ w) (ap (λ (r : Rule). r.needs) e ∙ having_needs i j) on i (one_has i))
      (subst (λ (r : Rule). All Says (listed r.ifs)) e f))
      (is_rule (suc i) j r m)

  says_head : (r : Rule) → Memᴰ r (rows 16) → Enabled w r → All Says (listed r.ifs) → Says r.head
  says_head r m on f i j there e =
      let (k, l, there', o) = rows_at 16 r (omega arith) m in
      let (same, same') = apart i j k l there there' (e ∙ head_is k l r o) in
      let held = says_rule k l r there' o on f in
      omega (arith, ap (counted (has w)) same)

  says_closed : (k : ℕ) → Applies at_least w Says M k → Says (head_of at_least k)
  says_closed k a = says_head (rule_of at_least k) (rule_in k (omega (arith, a.exists, rules_are))) a.enabled a.ifs

  -- a world that derives the decision has at least j of the first i actions
  derived : (i j : ℕ) → There i j → M (number i j) → j ≤ counted (has w) i
  derived i j there m =
      model.least 0 Says (λ d l. absurd (omega arith)) (λ k e. says_closed k) (number i j) (level_is (number i j)) m i j there refl

  pub holds_iff : (i j : ℕ) → There i j → Derivable at_least w (number i j) ↔ (j ≤ counted (has w) i)
  holds_iff i j there = (derived i j there, derives i j there)
