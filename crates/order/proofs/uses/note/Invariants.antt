-- The loop's invariant is `Noting`.
use Rattle.order.proofs.Noting.{Noting}
use Rattle.order.proofs.uses.note.Given as goal

abbrev pub invariant-loop-d : goal.invariant-loop-d
invariant-loop-d l = Noting l.j l.d-items l.initial.uses l.uses l.d-index
