-- The loop joins the sets of each action that leads to b.
use Rattle.std.proofs.Common.{cond, bit_or, get_or}
use Rattle.mask.specs.Mask.{has}
use Rattle.columns.specs.Sets.{all_sets, column_of}
use Rattle.columns.proofs.Picking.{Picking}
use Rattle.columns.proofs.reach.Reach.world_of.Given as goal

abbrev pub invariant-loop-a : goal.invariant-loop-a
invariant-loop-a l =
    Picking bit_or (λ k. has (get_or l.self.leads k 0) l.b) (column_of l.w) (cond (has l.self.base l.b) all_sets 0) 16 l.word l.a
