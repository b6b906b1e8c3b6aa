-- The parts read so far are numbers, and the list holds them where they fit.
use Rattle.std.specs.Prelude.{map}
use Rattle.lines.proofs.Parts.{Read}
use Rattle.lines.proofs.contents.list.Given as goal

abbrev pub invariant-loop-part : goal.invariant-loop-part
invariant-loop-part l = Read l.n (map (λ p. p.now) l.yielded) l.list
