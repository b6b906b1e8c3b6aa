-- How many decisions and rules there are at most, and one more of each.
use Prim.Native.Nat.{ℕ, zero, suc, ◌+◌, ◌*◌, ◌≤◌, ◌<◌, zero-le}
use mathlib.Core.Bool.{Bool, true, false, cond}
use mathlib.Core.List.{[], ◌∷◌}
use mathlib.Core.Path.{◌≡◌}
use native.Mathlib.Nat.{le_refl}
use native.Mathlib.Numerals.{add-one}
use native.Mathlib.Omega.{arith}
use lib.Dec.{ltb}
use lib.ListN.{length, length-append}
use Rattle.threshold.specs.AtLeast.{There, decisions_about, decisions_to, without, first_for, rules_for, row, rows}

pub decisions_few : (n : ℕ) → decisions_to n ≤ n * 8
unfolding decisions_to
decisions_few zero = le_refl 0
decisions_few (suc n) = omega (arith, decisions_few n)

pub decisions_more : (n : ℕ) → decisions_to (n + 1) ≡ decisions_to n + decisions_about (n + 1)
unfolding decisions_to
decisions_more n = rw add-one

-- two rules for each decision
first_few : (i j : ℕ) → length (first_for i j) ≤ 1
unfolding first_for
first_few i j = go (ltb j i)
  where
    go : (b : Bool) → length (cond b (without i j ∷ []) []) ≤ 1
    go true = le_refl 1
    go false = zero-le

pub rules_few : (i j : ℕ) → length (rules_for i j) ≤ 2
unfolding rules_for
rules_few i j = simp length-append (omega (arith, first_few i j))

pub row_few : (i n : ℕ) → length (row i n) ≤ n * 2
unfolding row
row_few i zero = le_refl 0
row_few i (suc n) = simp length-append (omega (arith, row_few i n, rules_few i (suc n)))

pub rows_few : (n : ℕ) → length (rows n) ≤ n * 16
unfolding rows
rows_few zero = le_refl 0
rows_few (suc n) = simp length-append (omega (arith, rows_few n, row_few (suc n) (decisions_about (suc n))))

-- the decision that a turn of the loops is about
pub there : {i j end : ℕ} → i < 17 → 1 ≤ j → j < end + 1 → end ≡ decisions_about i → There i j
there h some few e = record { actions = omega arith; some = some; eight = omega arith; fits = omega arith }
