-- `write` writes each marked set, word by word: the invariant of its loops is in `Written`.
use Rattle.std.proofs.Common.{rules, ℕ, List, true, ◌≡◌, ◌+◌, ◌*◌, ◌<◌, sym, ◌∙◌, arith, length, get_or}
use Rattle.mask.specs.Mask.{has}
use Rattle.covers.specs.Covers.{marked_in}
use Rattle.survey.specs.Laws.Slims.{table_marks, marks_zero}
use Rattle.survey.proofs.Filtering.{Taken, Skips, one_taken, none_taken, go_on}
use Rattle.survey.proofs.Written.{Written, written_none, written_at, written_idle, written_skip, written_more, written_room}
use Rattle.survey.proofs.write.Goals.{In-Some, then-word-ne0+in-None, else-word-ne0}
use Rattle.survey.proofs.write.Goals as goal

pub loop-w-init : goal.loop-w-init
loop-w-init c = written_none _ _

-- a set that a word lacks is passed over
skips : (words : List ℕ) (w : ℕ) {before places : List ℕ} {n : ℕ}
    → Skips (λ i. Written (marked_in words) before (64 * w + i) n places) 64 (has (get_or words w 0))
skips words w i h out so = written_at (written_skip so (sym ((table_marks words w).bits i h) ∙ out)) (omega arith)

-- the set in hand
taken : (c : In-Some) → Taken (λ f. f.0.now ≡ get_or c.args.words.now c.loop-w.w 0)
    (λ i. Written (marked_in c.args.words.now) c.args.places.now (64 * c.loop-w.w + i) c.loop-i.n c.loop-i.places)
    (has (get_or c.args.words.now c.loop-w.w 0)) 64 c.in-Some.i c.next.new.self
taken c =
    one_taken (has (get_or c.args.words.now c.loop-w.w 0)) _ _ _ c.loop-i.invariant _ c.in-Some.ensures.steps
    (skips c.args.words.now c.loop-w.w)
    (λ f g x b h k. search rules)

-- is marked
marked : (c : In-Some) → marked_in c.args.words.now (64 * c.loop-w.w + c.in-Some.i) ≡ true
marked c = let one = taken c in sym ((table_marks c.args.words.now c.loop-w.w).bits _ one.below) ∙ one.taken

-- and has a place
room : (c : In-Some) → c.loop-i.n < length c.args.places.now
room c =
    let one = taken c in
    written_room one.so (marked c) (64 * length c.args.words.now) (omega (arith, one.below, c.loop-w-test.true)) c.requires.words_in_bounds

pub overflow_add-places : goal.overflow_add-places
overflow_add-places c = omega (arith, (taken c).below, c.loop-w-test.true, c.requires.words_bound)

pub bounds-places-n : goal.bounds-places-n
bounds-places-n c = omega (arith, room c)

pub loop-i-preserved : goal.loop-i-preserved
loop-i-preserved c = let one = taken c in go_on one (written_at (written_more one.so (marked c) (room c)) (omega arith))

pub loop-w-preserved : goal.loop-w-preserved
loop-w-preserved c =
    elim c.if-word-ne0.branch [
      | then-word-ne0+in-None w ↦ rw (w.places-is, w.n-is) (written_at
          (none_taken (has (get_or c.args.words.now c.loop-w.w 0)) _ _ _ w.loop-i.invariant w.in-None.ensures.steps
          (skips c.args.words.now c.loop-w.w)
          (λ f g x b h k. search rules)) (omega arith))
      | else-word-ne0 w ↦ rw (w.places-is, w.n-is) (written_at (written_idle c.loop-w.invariant _ (omega arith)
          (marks_zero (table_marks c.args.words.now c.loop-w.w) w.if-word-ne0.false)) (omega arith))
    ]
