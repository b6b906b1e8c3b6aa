-- `added` moves each set that lacks the action up by its worth.
use Rattle.std.proofs.Common.{arith}
use Rattle.mask.proofs.Bits.{worth}
use Rattle.columns.specs.Laws.Columns.{lows}
use Rattle.covers.specs.Covers.{moved}
use Rattle.covers.proofs.added.Goals as goal

pub returns : goal.returns
unfolding moved lows
returns c = rw (worth c.args.a 32 (omega arith))
