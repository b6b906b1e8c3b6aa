-- `lowest` computes the levels of the definition: the invariants of its loops are in `Rounds`.
use Prim.Native.Nat.{◌-◌}
use Rattle.base.specs.Laws.Totals.{total}
use Rattle.strata.proofs.Rounds.{AtRound, AtTurn}
use Rattle.strata.proofs.raising.lowest.Given as goal

abbrev pub invariant-loop-rule : goal.invariant-loop-rule
invariant-loop-rule l = AtTurn l.policy l.initial.level l.rule-index l.level l.raised

abbrev pub invariant-rounds : goal.invariant-rounds
invariant-rounds l = AtRound l.policy l.level

abbrev pub decreases-rounds : goal.decreases-rounds
decreases-rounds l = 1920 - total l.level
