-- `above` meets its contract.
use Rattle.policy.proofs.Arrays.{entry_fits}
use Rattle.strata.proofs.Rounds.{over_none, over_more}
use Rattle.strata.proofs.raising.above.Goals as goal

pub loop-d-init : goal.loop-d-init
loop-d-init c = over_none

pub bounds-level-d : goal.bounds-level-d
bounds-level-d c = entry_fits c.requires.list_fits _ c.listed-d-items.ensures c.loop-d.d-index 0 c.loop-d-test.true

pub loop-d-preserved : goal.loop-d-preserved
loop-d-preserved c = rw c.max-lowest.ensures (over_more c.loop-d.invariant c.loop-d-test.true)
