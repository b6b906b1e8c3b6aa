-- `above` meets its contract: the level lies above those of the first i decisions.
use Rattle.strata.proofs.Rounds.{Over}
use Rattle.strata.proofs.raising.above.Given as goal

abbrev pub invariant-loop-d : goal.invariant-loop-d
invariant-loop-d l = Over l.level l.step l.own l.d-items l.lowest l.d-index
