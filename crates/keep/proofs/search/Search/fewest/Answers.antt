-- `fewest` looks at the masks in rising order, and leaps over some: the invariant of its loop is in `Choosing`.
use Rattle.std.proofs.Common.{◌+◌, ◌≤◌, ◌^◌, sym, ◌∙◌, arith}
use lib.Count.{count_trailing_zeros, trailing_le}
use Rattle.mask.proofs.Bits.{worth}
use Rattle.keep.proofs.Choosing.{choosing_none, choosing_skip, choosing_new, choosing_leap, choosing_first, no_fewer_more}
use Rattle.keep.proofs.Leaps.{leap_least, leap_set}
use Rattle.keep.proofs.search.Search.fewest.Goals.{then-unmarked, else-unmarked}
use Rattle.keep.proofs.search.Search.fewest.Goals as goal

pub loop-s-init : goal.loop-s-init
loop-s-init c = choosing_none _ _

pub loop-s-preserved-then-no_fewer : goal.loop-s-preserved-then-no_fewer
loop-s-preserved-then-no_fewer c =
    let s = c.loop-s.s in
    let most = sym c.no_fewer.ensures ∙ c.if-no_fewer.true in
    let sets = c.sets_of-sets.ensures in
    let within : s + 2 ^ count_trailing_zeros 16 s ≤ c.sets_of-sets.result =
    rw sets (leap_set _ s (choosing_first c.loop-s.invariant most) (rw sets at c.loop-s-test.true)) in
    rw (worth (count_trailing_zeros 16 s) 64 (omega (arith, trailing_le 16 s)))
    (choosing_leap c.loop-s.invariant _ (omega arith) within (λ t h l. no_fewer_more _ s t most (leap_least s t h l)))

pub loop-s-preserved : goal.loop-s-preserved
loop-s-preserved c =
    let most = sym c.no_fewer.ensures ∙ c.if-no_fewer.false in
    elim c.if-unmarked.branch [
      | then-unmarked w ↦ rw w.best-is
          (choosing_new c.loop-s.invariant c.loop-s-test.true (sym c.unmarked.ensures ∙ w.if-unmarked.true) most)
      | else-unmarked w ↦ rw w.best-is
          (choosing_skip c.loop-s.invariant c.loop-s-test.true (sym c.unmarked.ensures ∙ w.if-unmarked.false))
    ]
