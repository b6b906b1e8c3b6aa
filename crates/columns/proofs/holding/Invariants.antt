-- The loop keeps the sets of each action of the set.
use lib.Bits.{bit_and}
use Rattle.mask.specs.Mask.{has}
use Rattle.columns.specs.Sets.{all_sets, column_of}
use Rattle.columns.proofs.Picking.{Picking}
use Rattle.columns.proofs.holding.Given as goal

abbrev pub invariant-loop-a : goal.invariant-loop-a
invariant-loop-a l = Picking bit_and (has l.set) (column_of l.w) all_sets 16 l.sets l.a
