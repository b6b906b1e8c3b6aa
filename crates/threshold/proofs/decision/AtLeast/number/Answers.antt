-- `AtLeast::number` meets its contract.
use Rattle.std.proofs.Common.{arith, ◌-◌}
use Rattle.threshold.proofs.Counts.{decisions_few}
use Rattle.threshold.proofs.decision.AtLeast.number.Goals as goal

pub overflow_add-result : goal.overflow_add-result
overflow_add-result c =
    let there = c.args.self.there in
    omega (arith, c.decisions_to.ensures, decisions_few (c.args.self.i - 1), there.actions, there.eight)
