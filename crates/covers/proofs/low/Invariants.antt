-- The loop joins the word of w less each of its actions.
use Rattle.std.proofs.Common.{◌≡◌, ◌-◌, ◌^◌}
use Rattle.std.specs.Int.Bits.{bit_or}
use Rattle.mask.specs.Mask.{has}
use Rattle.columns.specs.Sets.{picked}
use Rattle.std.proofs.Common.{get_or}
use Rattle.covers.proofs.low.Given as goal

abbrev pub invariant-loop-b : goal.invariant-loop-b
invariant-loop-b l = l.word ≡ picked bit_or (has l.w.w) (λ a. get_or l.table (l.w.w - 2 ^ a) 0) 0 l.b
