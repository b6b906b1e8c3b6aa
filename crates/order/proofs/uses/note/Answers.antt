-- The loop's invariant is `Noting`.
use Rattle.policy.proofs.Arrays.{entry_fits}
use Rattle.order.proofs.Noting.{noting_all}
use Rattle.order.proofs.uses.note.Goals as goal

pub bounds-uses-d : goal.bounds-uses-d
bounds-uses-d c = entry_fits c.requires.list_fits _ c.listed-d-items.ensures _ 0 c.loop-d-test.true

pub returns-clause-by_index : goal.returns-clause-by_index
returns-clause-by_index c = noting_all c.loop-d.invariant c.loop-d-test.false _ c.listed-d-items.ensures
