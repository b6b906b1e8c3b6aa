-- The loops of `policy`: the policy holds the rules of the decisions so far.
use Rattle.std.proofs.Common.{◌≡◌, ◌≤◌, ◌-◌}
use Rattle.threshold.specs.AtLeast.{rows}
use Rattle.threshold.proofs.Filling.{holding, before}
use Rattle.threshold.proofs.policy.Given as goal

abbrev pub invariant-loop-j : goal.invariant-loop-j
invariant-loop-j l = (l.policy ≡ holding (before l.i l.j)) × (1 ≤ l.j)

abbrev pub invariant-loop-i : goal.invariant-loop-i
invariant-loop-i l = l.policy ≡ holding (rows (l.i - 1))
