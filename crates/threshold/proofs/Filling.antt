-- The policy with the rules of the decisions so far.
use Prim.Native.Nat.{ℕ, zero, suc, ◌+◌, ◌-◌, ◌≤◌, ◌<◌}
use mathlib.Core.List.{List, [], ◌∷◌, ◌++◌, append-nil, append_assoc}
use mathlib.Core.Path.{◌≡◌, refl, sym, ap, ◌∙◌}
use native.Mathlib.Omega.{arith}
use lib.Dec.{ltb, ltb→lt, lt→ltb}
use lib.ListN.{length, replicate, length-append}
use Rattle.base.specs.Laws.Tests.{is_true, is_false}
use Rattle.base.specs.Lists.{filled}
use Rattle.base.specs.Laws.Lists.{filled_snoc}
use Rattle.policy.specs.declared.Policy.{Policy}
use Rattle.policy.specs.declared.Rule.{Rule}
use Rattle.policy.specs.declared.Action.{Action}
use Rattle.policy.specs.Record.{no_action}
use Rattle.format.specs.Entries.{record_of, zero_rule}
use Rattle.threshold.specs.AtLeast.{There, decisions_about, without, having, first_for, rules_for, row, rows, plain, with_rule, with_rules}
use Rattle.threshold.proofs.Counts.{rules_few, row_few, rows_few}

-- the policy with these rules
unfoldable pub holding : List Rule → Policy
holding rules = record_of 100 16 (replicate 100 0) (replicate 16 plain) rules

pub count : {p : Policy} (done : List Rule) → p ≡ holding done → p.rules ≡ length done
unfolding holding record_of
count done e = ap (λ (p : Policy). p.rules) e

-- with no rule
pub none_yet : {a : Action} {r : Rule} → a ≡ plain → r ≡ zero_rule
    → record { decisions = 100; actions = 16; rules = 0; level = replicate 128 0; action = replicate 16 a; rule = replicate 256 r } ≡ holding (rows 0)
unfolding holding record_of rows filled
none_yet e f = rw (e, f) refl

-- with one rule more
put : {p p' : Policy} (done : List Rule) (r : Rule) → p ≡ holding done → length done < 256 → p' ≡ with_rule p r
    → p' ≡ holding (done ++ (r ∷ []))
unfolding holding record_of
put done r e few is =
    rw (is, e) (λ i. record {
      decisions = 100;
      actions = 16;
      rules = longer i;
      level = filled 128 0 (replicate 100 0);
      action = filled 16 no_action (replicate 16 plain);
      rule = filled_snoc 256 zero_rule done r few i;
    })
  where
    longer : length done + 1 ≡ length (done ++ (r ∷ []))
    longer = omega (arith, length-append done (r ∷ []))

-- with some more
puts : (done rules : List Rule) → length done + length rules ≤ 256 → with_rules (holding done) rules ≡ holding (done ++ rules)
puts done [] few = rw append-nil refl
puts done (r ∷ rules) few =
    ap (λ (p : Policy). with_rules p rules) (put done r refl (omega arith) refl)
    ∙ puts (done ++ (r ∷ [])) rules (omega (arith, length-append done (r ∷ [])))
    ∙ ap holding (append_assoc done (r ∷ []) rules)

-- the rules before those of the decision "at least j of the first i"
unfoldable pub before : ℕ → ℕ → List Rule
before i j = rows (i - 1) ++ row i (j - 1)

-- there is room for two more
before_few : (i j : ℕ) → i ≤ 16 → j ≤ 8 → length (before i j) ≤ 254
unfolding before
before_few i j h l = simp length-append (omega (arith, rows_few (i - 1), row_few i (j - 1)))

pub room : {p : Policy} (i j : ℕ) → There i j → p ≡ holding (before i j) → p.rules ≤ 254
room i j there e = omega (arith, count (before i j) e, before_few i j there.actions there.eight)

-- ---- the rules so far are those before the first decision about the first i actions
pub row_starts : {p : Policy} (i : ℕ) → p ≡ holding (rows (i - 1)) → p ≡ holding (before i 1)
unfolding before row
row_starts i e = rw append-nil e

-- after the last decision about the first i actions
rows_step : (i : ℕ) → 1 ≤ i → rows i ≡ rows (i - 1) ++ row i (decisions_about i)
unfolding rows
rows_step zero some = absurd (omega arith)
rows_step (suc i) some = let less : suc i - 1 ≡ i = omega arith in rw less

pub row_ends : {p : Policy} (i j : ℕ) → 1 ≤ i → j ≡ decisions_about i + 1 → p ≡ holding (before i j) → p ≡ holding (rows (i + 1 - 1))
unfolding before
row_ends i j some e h =
    let less : i + 1 - 1 ≡ i = omega arith in
    let last : j - 1 ≡ decisions_about i = omega arith in
    rw (less, rows_step i some) (rw last at h)

-- and with its own rules, those before the next
next : (i j : ℕ) → 1 ≤ j → before i (j + 1) ≡ before i j ++ rules_for i j
unfolding before row
next i zero some = absurd (omega arith)
next i (suc j) some =
    let here : suc j + 1 - 1 ≡ suc j = omega arith in
    let less : suc j - 1 ≡ j = omega arith in
    rw (here, less) (sym (append_assoc (rows (i - 1)) (row i j) (rules_for i (suc j))))

pub turned : {p p' : Policy} (i j : ℕ) → There i j → p ≡ holding (before i j) → p' ≡ with_rules p (rules_for i j)
    → p' ≡ holding (before i (j + 1))
turned i j there e is =
    is ∙ ap (λ (p : Policy). with_rules p (rules_for i j)) e
    ∙ puts (before i j) (rules_for i j) (omega (arith, before_few i j there.actions there.eight, rules_few i j))
    ∙ ap holding (sym (next i j there.some))

-- ---- a decision's rules, put one after the other
module _ (p : Policy) (i j : ℕ) where
  pub two_put : {q p' : Policy} {r r' : Rule} → j < i → r ≡ without i j → q ≡ with_rule p r → r' ≡ having i j
      → p' ≡ with_rule q r' → p' ≡ with_rules p (rules_for i j)
  unfolding rules_for first_for
  two_put less first e second e' =
      e' ∙ (λ k. with_rule ((e ∙ ap (with_rule p) first) k) (second k)) ∙ rw (is_true (ltb j i) (lt→ltb j i less)) refl

  pub one_put : {p' : Policy} {r' : Rule} → i ≤ j → r' ≡ having i j → p' ≡ with_rule p r' → p' ≡ with_rules p (rules_for i j)
  unfolding rules_for first_for
  one_put over second e' =
      e' ∙ ap (with_rule p) second ∙ rw (is_false (ltb j i) (λ t. omega (arith, ltb→lt j i t))) refl
