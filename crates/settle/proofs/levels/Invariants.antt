-- The invariants of the loops: whatever the sets are, the words are right below the level; what passes keep; and `AtPlace`.
use Rattle.std.proofs.Common.{ℕ, ◌*◌, ◌-◌, ◌^◌, ◌≤◌}
use Rattle.base.specs.Laws.Totals.{total}
use Rattle.policy.specs.declared.Query.{Query}
use Rattle.policy.specs.Questions.{Accepted}
use Rattle.settle.specs.Right.{AreWords, Right, Enabling}
use Rattle.settle.proofs.Passing.{Works, AtPlace}
use Rattle.settle.proofs.levels.Given as goal

abbrev pub invariant-loop-j : goal.invariant-loop-j
invariant-loop-j l = AtPlace l.policy l.order.rules l.from l.to l.enabled l.initial.held l.held l.again l.j

abbrev pub invariant-loop-i : goal.invariant-loop-i
invariant-loop-i l = Works l.policy l.order.rules l.from l.to l.enabled l.initial.held l.held × (total l.initial.held ≤ total l.held)

abbrev pub invariant-passes : goal.invariant-passes
invariant-passes l = Works l.policy l.order.rules l.from l.to l.enabled l.initial.held l.held

abbrev pub decreases-passes : goal.decreases-passes
decreases-passes l = 128 * 2 ^ 64 - total l.held

abbrev pub invariant-loop-l : goal.invariant-loop-l
invariant-loop-l l = AreWords 128 l.held × (l.l ≤ l.count)
    × ((q : Query) (w sets : ℕ) → Accepted l.policy q → Enabling l.policy q w sets l.order.rules l.enabled
    → Right l.policy q w sets l.l l.held)
