-- `marks` fills the table from the first word on: the words below n are right.
use Rattle.mask.specs.Laws.Minimal.{covered}
use Rattle.model.specs.Clears.{clears}
use Rattle.covers.specs.Covers.{Table}
use Rattle.keep.specs.Keep.{spoilt}
use Rattle.keep.proofs.marks.Given as goal

abbrev pub invariant-loop-n : goal.invariant-loop-n
invariant-loop-n l =
    let plan = l.words.plan in
    Table (covered (spoilt (clears plan.policy plan.query) plan.policy.actions l.set plan.query.done)) l.n l.table
