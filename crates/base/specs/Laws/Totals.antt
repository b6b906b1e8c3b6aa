-- The sum of a list's numbers, by which loops that only add are seen to end.
use Rattle.std.specs.Prelude.{ℕ, zero, suc, ◌+◌, ◌*◌, ◌≤◌, ◌<◌, List, [], ◌∷◌, ◌≡◌, length, get_or, set}
use Rattle.std.proofs.Common.{zero-le, arith}

unfoldable pub total : List ℕ → ℕ
total [] = 0
total (l ∷ ls) = l + total ls

pub total_set : (l : List ℕ) (i v : ℕ) → i < length l → total (set l i v) + get_or l i 0 ≡ total l + v
unfolding total
total_set [] i v h = absurd (omega arith)
total_set (x ∷ l) zero v h = omega arith
total_set (x ∷ l) (suc i) v h = omega (arith, total_set l i v (omega arith))

pub total_most : (l : List ℕ) (m : ℕ) → ((d : ℕ) → get_or l d 0 ≤ m) → total l ≤ length l * m
unfolding total
total_most [] m h = zero-le
total_most (x ∷ l) m h = omega (arith, h 0, total_most l m (λ d. h (suc d)))
