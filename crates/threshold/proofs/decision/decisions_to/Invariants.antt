-- The loop of `decision::decisions_to`: the decisions so far are counted.
use Rattle.std.proofs.Common.{◌≡◌}
use Rattle.threshold.specs.AtLeast.{decisions_to}
use Rattle.threshold.proofs.decision.decisions_to.Given as goal

abbrev pub invariant-loop-k : goal.invariant-loop-k
invariant-loop-k l = l.n ≡ decisions_to l.k
