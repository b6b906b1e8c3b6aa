-- Laws of the order of sets.
use Rattle.std.specs.Prelude.{ℕ, ◌≤◌, ◌<◌, ◌≡◌}
use Rattle.std.proofs.Math.Logic.{inl, inr, ⊎_elim}
use Rattle.std.proofs.Common.{eq-or-lt_of_le}
use native.Mathlib.Omega.{arith}
use Rattle.mask.specs.Family.{Before}

module _ (cost : ℕ → ℕ) (s t : ℕ) where
  -- a set that costs less comes before
  pub before_less : cost s < cost t → Before cost s t
  unfolding Before
  before_less h = inl h

  -- and so does one that costs no more and has the lower number
  pub before_lower : cost s ≤ cost t → s < t → Before cost s t
  unfolding Before
  before_lower h l = ⊎_elim (λ (e : cost s ≡ cost t). inr (e, l)) (λ (less : cost s < cost t). inl less) (eq-or-lt_of_le h)

  -- what comes before costs no more
  pub before_costs : Before cost s t → cost s ≤ cost t
  unfolding Before
  before_costs b = ⊎_elim (λ (less : cost s < cost t). omega arith) (λ (h : (cost s ≡ cost t) × (s < t)). omega arith) b

  -- no two sets come before each other
  pub before_once : Before cost s t → Before cost t s → ⊥
  unfolding Before
  before_once (inl h) (inl g) = omega arith
  before_once (inl h) (inr g) = omega arith
  before_once (inr h) (inl g) = omega arith
  before_once (inr h) (inr g) = omega arith

-- no set comes before the empty one, where that costs no more
pub before_empty : (cost : ℕ → ℕ) (s : ℕ) → cost 0 ≤ cost s → Before cost s 0 → ⊥
unfolding Before
before_empty cost s h (inl g) = omega arith
before_empty cost s h (inr g) = omega arith
