-- `closed` adds one action after the other.
use Rattle.std.proofs.Common.{◌≡◌}
use Rattle.covers.specs.Covers.{closed_of}
use Rattle.covers.proofs.closed.Given as goal

abbrev pub invariant-loop-a : goal.invariant-loop-a
invariant-loop-a l = l.all ≡ closed_of l.marks l.a
