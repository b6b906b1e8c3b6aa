-- The loop takes the sets of each shut action away.
use Rattle.mask.specs.Laws.Packed.{minus}
use Rattle.columns.specs.Sets.{all_sets, column_of, is_shut}
use Rattle.columns.proofs.Picking.{Picking}
use Rattle.columns.proofs.offered.Given as goal

abbrev pub invariant-loop-a : goal.invariant-loop-a
invariant-loop-a l = Picking minus (is_shut l.actions l.done) (column_of l.w.w) all_sets 16 l.sets l.a
