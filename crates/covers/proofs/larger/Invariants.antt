-- `larger` adds each action to the marked sets, one after the other.
use Rattle.std.proofs.Common.{◌≡◌}
use Rattle.covers.specs.Covers.{less_of}
use Rattle.covers.proofs.larger.Given as goal

abbrev pub invariant-loop-a : goal.invariant-loop-a
invariant-loop-a l = l.all ≡ less_of l.marks l.a
