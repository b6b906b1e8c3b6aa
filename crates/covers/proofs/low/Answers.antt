-- The loop joins the word of w less each of its actions.
use Rattle.std.proofs.Common.{◌≡◌, arith}
use Rattle.covers.specs.Covers.{low_of}
use Rattle.covers.proofs.low.Goals as goal

pub returns : goal.returns
unfolding low_of
returns c =
    let last : c.loop-b.b ≡ 10 = omega arith in
    rw last at c.loop-b.invariant
