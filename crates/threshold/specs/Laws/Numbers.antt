-- Each decision "at least j of the first i" has its own number, and the rules of the policy are those of these decisions.
use Rattle.std.specs.Prelude.{ℕ, zero, suc, ◌+◌, ◌-◌, ◌≤◌, ◌<◌, Bool, true, false, cond, ◌⊎◌, ◌≡◌, refl, T, ltb}
use mathlib.Core.List.{[], ◌∷◌, Memᴰ}
use Rattle.std.proofs.Common.{inl, inr, ⊎_elim, ap, le_refl, arith, ltb→lt, lt→ltb}
use Rattle.std.proofs.Math.Decide.{dec_lt, le_ind}
use Rattle.base.specs.Laws.Tests.{is_true}
use Rattle.policy.specs.declared.Rule.{Rule}
use Rattle.threshold.specs.AtLeast.{There, decisions_about, decisions_to, number, without, having, first_for, rules_for, row, rows}

-- more actions, no fewer decisions
decisions_grow : (m n : ℕ) → m ≤ n → decisions_to m ≤ decisions_to n
unfolding decisions_to
decisions_grow m n h = le_ind (λ (k : ℕ). decisions_to m ≤ decisions_to k) (le_refl (decisions_to m)) (λ k l ih. omega arith) n h

-- the number of a decision, where i is a successor
number_is : (i j : ℕ) → number (suc i) j ≡ decisions_to i + (j - 1)
unfolding number
number_is i j = let before : suc i - 1 ≡ i = omega arith in rw before

-- the decisions about fewer actions have lower numbers
lower : (i j k l : ℕ) → There i j → There k l → i < k → number i j < number k l
unfolding decisions_to
lower zero j k l h g less = absurd (omega (arith, h.some, h.fits))
lower (suc i) j zero l h g less = absurd (omega arith)
lower (suc i) j (suc k) l h g less =
    omega (arith, number_is i j, number_is k l, decisions_grow (suc i) k (omega arith), h.some, h.eight, h.fits)

-- so each has its own
pub apart : (i j k l : ℕ) → There i j → There k l → number i j ≡ number k l → (i ≡ k) × (j ≡ l)
unfolding number
apart i j k l h g e = elim (dec_lt i k) [
  | yes less ↦ absurd (omega (arith, lower i j k l h g less))
  | no more ↦ elim (dec_lt k i) [
    | yes less ↦ absurd (omega (arith, lower k l i j g h less))
    | no as_many ↦
        let same : i ≡ k = omega arith in
        (same, omega (arith, ap (λ (x : ℕ). decisions_to (x - 1)) same, h.some, g.some))
  ]
]

-- the rules of a decision
pub is_rule : (i j : ℕ) (r : Rule) → Memᴰ r (rules_for i j) → ((j < i) × (r ≡ without i j)) ⊎ (r ≡ having i j)
unfolding first_for rules_for
is_rule i j r m = ⊎_elim (λ k. inl (first (ltb j i) (ltb→lt j i) k)) (λ k. inr (mathlib.Core.List.Memᴰ.eq_of_singleton k))
    (mathlib.Core.List.Memᴰ.append_cases (cond (ltb j i) (without i j ∷ []) []) m)
  where
    first : (b : Bool) → (T b → j < i) → Memᴰ r (cond b (without i j ∷ []) []) → (j < i) × (r ≡ without i j)
    first true f k = (f tt, mathlib.Core.List.Memᴰ.eq_of_singleton k)
    first false f k = absurd (mathlib.Core.List.Memᴰ.not-nil k)

pub without_in : (i j : ℕ) → j < i → Memᴰ (without i j) (rules_for i j)
unfolding first_for rules_for
without_in i j h = rw (is_true (ltb j i) (lt→ltb j i h)) (mathlib.Core.List.Memᴰ.head refl)

pub having_in : (i j : ℕ) → Memᴰ (having i j) (rules_for i j)
unfolding first_for rules_for
having_in i j = mathlib.Core.List.Memᴰ.append_right (cond (ltb j i) (without i j ∷ []) []) (mathlib.Core.List.Memᴰ.head refl)

-- the rules of a row are those of its decisions
row_at : (i n : ℕ) (r : Rule) → Memᴰ r (row i n) → (j : ℕ) × (1 ≤ j) × (j ≤ n) × Memᴰ r (rules_for i j)
unfolding row
row_at i zero r m = absurd (mathlib.Core.List.Memᴰ.not-nil m)
row_at i (suc n) r m = ⊎_elim {C = (j : ℕ) × (1 ≤ j) × (j ≤ suc n) × Memᴰ r (rules_for i j)}
    (λ (k : Memᴰ r (row i n)). let (j, some, few, o) = row_at i n r k in (j, some, omega arith, o))
    (λ (k : Memᴰ r (rules_for i (suc n))). (suc n, omega arith, le_refl (suc n), k))
    (mathlib.Core.List.Memᴰ.append_cases (row i n) m)

row_make : (i n j : ℕ) (r : Rule) → 1 ≤ j → j ≤ n → Memᴰ r (rules_for i j) → Memᴰ r (row i n)
unfolding row
row_make i zero j r some few m = absurd (omega arith)
row_make i (suc n) j r some few m = elim (dec_lt n j) [
  | yes h ↦ let last : j ≡ suc n = omega arith in mathlib.Core.List.Memᴰ.append_right (row i n) (rw last at m)
  | no h ↦ mathlib.Core.List.Memᴰ.append_left (rules_for i (suc n)) (row_make i n j r some (omega arith) m)
]

-- and so are those of all rows
pub rows_at : (n : ℕ) (r : Rule) → n ≤ 16 → Memᴰ r (rows n) → (i j : ℕ) × There i j × Memᴰ r (rules_for i j)
unfolding rows
rows_at zero r h m = absurd (mathlib.Core.List.Memᴰ.not-nil m)
rows_at (suc n) r h m = ⊎_elim {C = (i j : ℕ) × There i j × Memᴰ r (rules_for i j)}
    (λ (k : Memᴰ r (rows n)). rows_at n r (omega arith) k)
    (λ (k : Memᴰ r (row (suc n) (decisions_about (suc n)))).
    let (j, some, few, o) = row_at (suc n) (decisions_about (suc n)) r k in
    (suc n, j, record { actions = h; some = some; eight = omega arith; fits = omega arith }, o))
    (mathlib.Core.List.Memᴰ.append_cases (rows n) m)

pub rows_make : (n i j : ℕ) (r : Rule) → i ≤ n → There i j → Memᴰ r (rules_for i j) → Memᴰ r (rows n)
unfolding rows
rows_make zero i j r h there m = absurd (omega (arith, there.some, there.fits))
rows_make (suc n) i j r h there m = elim (dec_lt n i) [
  | yes l ↦
      let last : i ≡ suc n = omega arith in
      mathlib.Core.List.Memᴰ.append_right (rows n)
      (row_make (suc n) (decisions_about (suc n)) j r there.some (omega (arith, there.eight, there.fits)) (rw last at m))
  | no l ↦ mathlib.Core.List.Memᴰ.append_left (row (suc n) (decisions_about (suc n))) (rows_make n i j r (omega arith) there m)
]
