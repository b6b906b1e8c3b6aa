-- The largest set that shares nothing with k or done: the others are its subsets.
use Rattle.std.specs.Prelude.{ℕ, ◌-◌, ◌^◌, ◌<◌, ◌&&◌, ◌||◌, not, ◌≡◌, T}
use Rattle.std.proofs.Math.Logic.{⊎_elim}
use Rattle.std.specs.Int.Bits.{bit_or}
use Rattle.std.proofs.Math.Dec.{T_not, not_T}
use Rattle.std.proofs.Math.Pow.{ones_lt}
use Rattle.base.specs.Laws.Tests.{same, and_make, and_left, and_right, or_left, or_right, or_cases}
use Rattle.mask.specs.Mask.{has, ◌⊆◌, Apart, disjoint}
use Rattle.mask.specs.Laws.{has_or, has→<, ⊆→<, disjoint_iff, all_has}
use Rattle.mask.specs.Laws.Packed.{has_minus}
use Rattle.keep.specs.Search.{rest_of}

module _ (m done k : ℕ) where
  rest_bit : (i : ℕ) → T (has (rest_of m done k) i) → T (has (2 ^ m - 1) i) × (T (has k i || has done i) → ⊥)
  unfolding rest_of
  rest_bit i t =
      let both = rw (has_minus (2 ^ m - 1) (bit_or k done) i, has_or k done i) at t in (
        and_left (has (2 ^ m - 1) i) (not (has k i || has done i)) both,
        T_not (has k i || has done i) (and_right (has (2 ^ m - 1) i) (not (has k i || has done i)) both),
      )

  -- it is a set of the m actions, and shares nothing with either
  pub rest_set : rest_of m done k < 2 ^ m
  rest_set = ⊆→< (rest_of m done k) (2 ^ m - 1) m (λ i t. (rest_bit i t).0) (ones_lt m)

  pub rest_apart : Apart (rest_of m done k) k
  rest_apart i t u = (rest_bit i t).1 (or_left (has k i) (has done i) u)

  pub rest_undone : Apart (rest_of m done k) done
  rest_undone i t u = (rest_bit i t).1 (or_right (has k i) (has done i) u)

  -- it has each of the m actions that is in neither, and so every such set lies in it
  pub rest_has : (i : ℕ) → i < m → (T (has k i) → ⊥) → (T (has done i) → ⊥) → T (has (rest_of m done k) i)
  unfolding rest_of
  rest_has i l off undone = rw (has_minus (2 ^ m - 1) (bit_or k done) i, has_or k done i)
      (and_make (has (2 ^ m - 1) i) (not (has k i || has done i)) (all_has m i l)
      (not_T (has k i || has done i) (λ u. ⊎_elim off undone (or_cases (has k i) (has done i) u))))

  pub rest_make : (t : ℕ) → t < 2 ^ m → T (disjoint t k) → T (disjoint t done) → t ⊆ rest_of m done k
  rest_make t l off undone i h = rest_has i (has→< t i m h l) ((disjoint_iff t k).0 off i h) ((disjoint_iff t done).0 undone i h)

-- to share nothing with two sets is to share nothing with their join
pub disjoint_or : (k s done : ℕ) → disjoint k (bit_or s done) ≡ (disjoint k s && disjoint k done)
disjoint_or k s done = same (disjoint k (bit_or s done)) (disjoint k s && disjoint k done)
    (λ t.
    let clear = (disjoint_iff k (bit_or s done)).0 t in
    and_make (disjoint k s) (disjoint k done)
    ((disjoint_iff k s).1 (λ i u v. clear i u (rw has_or (or_left (has s i) (has done i) v))))
    ((disjoint_iff k done).1 (λ i u v. clear i u (rw has_or (or_right (has s i) (has done i) v)))))
    (λ t. (disjoint_iff k (bit_or s done)).1 (λ i u v. ⊎_elim
    ((disjoint_iff k s).0 (and_left (disjoint k s) (disjoint k done) t) i u)
    ((disjoint_iff k done).0 (and_right (disjoint k s) (disjoint k done) t) i u)
    (or_cases (has s i) (has done i) (rw has_or at v))))
