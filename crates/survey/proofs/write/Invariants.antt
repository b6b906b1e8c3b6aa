-- `write` writes each marked set, word by word: the invariant of its loops is in `Written`.
use Rattle.std.proofs.Common.{◌≡◌, ◌+◌, ◌*◌, get_or}
use Rattle.covers.specs.Covers.{marked_in}
use Rattle.survey.proofs.Filtering.{Filtering}
use Rattle.survey.proofs.Written.{Written}
use Rattle.survey.proofs.write.Given as goal

abbrev pub invariant-loop-w : goal.invariant-loop-w
invariant-loop-w l = Written (marked_in l.words) l.fn.places (64 * l.w) l.n l.places

abbrev pub invariant-loop-i : goal.invariant-loop-i
invariant-loop-i l =
    Filtering (λ f. f.0.now ≡ get_or l.words l.w 0) (λ i. Written (marked_in l.words) l.fn.places (64 * l.w + i) l.n l.places) 64
    l.i-iterator.iter l.i-iterator.p
