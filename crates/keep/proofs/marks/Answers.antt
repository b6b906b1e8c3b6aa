-- `marks` fills the table from the first word on: where the words below are right, so is the next.
use Rattle.std.proofs.Common.{◌<◌, arith}
use Rattle.policy.specs.Laws.{accepted_range}
use Rattle.covers.specs.Laws.Marks.{words_few, table_next}
use Rattle.keep.proofs.marks.Goals as goal

pub words_of-n-end-requires : goal.words_of-n-end-requires
words_of-n-end-requires c = (accepted_range _ _ c.args.words.now.plan.accepted).actions

pub loop-n-preserved : goal.loop-n-preserved
loop-n-preserved c =
    let below : c.loop-n.n < 1024 = omega (arith, c.words_of-n-end.ensures, words_few _ _ c.args.words.now.plan.accepted) in
    table_next c.loop-n.invariant below c.low-low.ensures c.spoilt.ensures c.closed.ensures
