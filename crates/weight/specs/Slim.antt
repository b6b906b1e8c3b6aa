-- The slim sets and the best set of a query, computed.
use Rattle.std.specs.Prelude.{ℕ, ◌^◌, Bool, List}
use Rattle.std.proofs.Math.Option.{Option}
use Rattle.mask.specs.Family.{among, minimal, lightest}
use Rattle.policy.specs.declared.Policy.{Policy}
use Rattle.policy.specs.declared.Query.{Query}
use Rattle.model.specs.Clears.{clears}
use Rattle.weight.specs.Cost.{cost_of}

-- ---- how it is computed, which need not be believed: the engine's `Slim`, `Lists` and `Best` say what these are (`slim_iff`, `lists`,
-- `best_found`)

module _ (p : Policy) (q : Query) where
  -- s is slim (subset-minimal): it clears and no proper subset of it does
  unfoldable pub slim : ℕ → Bool
  slim = minimal (clears p q)

  unfoldable pub slim_sets : List ℕ
  slim_sets = among slim (2 ^ p.actions)

  -- the best set: of those that clear the one that comes before all others
  unfoldable pub best : Option ℕ
  best = lightest (clears p q) (cost_of p) (2 ^ p.actions)
