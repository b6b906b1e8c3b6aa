-- The loop keeps the sets of each action of the mask.
use Prim.Native.Nat.{◌+◌, ◌*◌}
use lib.Bits.{bit_and}
use lib.ListN.{get_or}
use Rattle.mask.specs.Mask.{has}
use Rattle.columns.specs.Sets.{all_sets}
use Rattle.columns.proofs.Picking.{Picking}
use Rattle.columns.proofs.reach.four.Given as goal

abbrev pub invariant-loop-b : goal.invariant-loop-b
invariant-loop-b l = Picking bit_and (has l.v) (λ a. get_or l.world (4 * l.z + a) 0) all_sets 4 l.word l.b
