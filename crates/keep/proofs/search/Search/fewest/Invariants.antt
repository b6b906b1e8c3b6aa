-- `fewest` looks at the masks in rising order, and leaps over some: the invariant of its loop is in `Choosing`.
use Rattle.std.proofs.Common.{◌-◌}
use Rattle.keep.specs.Search.{unmarked}
use Rattle.keep.proofs.Choosing.{Choosing}
use Rattle.keep.proofs.search.Search.fewest.Given as goal

abbrev pub invariant-loop-s : goal.invariant-loop-s
invariant-loop-s l = Choosing (unmarked l.self.table.now l.self.actions l.self.set l.self.done) l.sets l.s l.best

abbrev pub decreases-loop-s : goal.decreases-loop-s
decreases-loop-s l = l.sets - l.s
