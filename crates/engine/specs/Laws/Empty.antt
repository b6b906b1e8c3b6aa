-- The empty set, when enough, is the best and the only slim set.
use Rattle.std.specs.Prelude.{ℕ, ◌≡◌}
use Rattle.std.proofs.Common.{sym, arith}
use Rattle.std.proofs.Math.Decide.{ℕ_discrete}
use Rattle.mask.specs.Mask.{◌⊆◌}
use Rattle.mask.specs.Laws.{has_none}
use Rattle.mask.specs.Laws.Before.{before_lower}
use Rattle.policy.specs.declared.Policy.{Policy}
use Rattle.policy.specs.declared.Query.{Query}
use Rattle.weight.specs.Cost.{cost_of}
use Rattle.weight.specs.Laws.Cost.{costs_no_more}
use Rattle.engine.specs.Sets.{Enough, Slim, Best}

-- the empty set lies in every set
none_⊆ : (s : ℕ) → 0 ⊆ s
none_⊆ s i t = absurd (has_none i t)

module _ (p : Policy) (q : Query) (h : Enough p q 0) where
  pub empty_best : Best p q 0
  empty_best = record { enough = h; least = λ t ne e. before_lower (cost_of p) 0 t (costs_no_more p 0 t (none_⊆ t)) (omega arith) }

  pub empty_only : (s : ℕ) → Slim p q s → s ≡ 0
  empty_only s slim = elim (ℕ_discrete 0 s) [ yes e ↦ sym e | no ne ↦ absurd (slim.least 0 (none_⊆ s) ne h) ]
