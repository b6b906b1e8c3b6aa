-- The text of `rewrite` for a file by what the reader and the writer return.
use Prim.Native.Nat.{ℕ}
use mathlib.Core.List.{List}
use mathlib.Core.Path.{◌≡◌, refl, sym, ◌∙◌, ap}
use native.Mathlib.Omega.{arith}
use lib.ListN.{length, take}
use Rattle.policy.specs.Laws.{answers}
use Rattle.engine.specs.Laws.Refusals.{answered}
use Rattle.format.specs.Bounds.{longest_file}
use Rattle.text.specs.Put.{refused_text}
use Rattle.reader.specs.declared.Reading.{Reading}
use Rattle.reader.specs.File.{refused_reading, draft_of, read_of}
use Rattle.reader.specs.Laws.Files.{read_refused, read_passed, read_denied}
use Rattle.std.proofs.Common.{Ok, Err}
use Rattle.policy.specs.declared.refusal.Refusal.{Refusal}
use Rattle.policy.specs.Refusal.{number_of}
use Rattle.writer.specs.Writing.{file_text, Writes}
use Rattle.writer.specs.Laws.Room.{answered_before}
use Rattle.writer.specs.Laws.Drafts.{draft_short, draft_asked}
use Rattle.printing.specs.Texts.{rewrite_text}
use Rattle.printing.specs.Laws.Rewritten.{text_refused}

module _ (s : List ℕ) {r : Reading} (same : r ≡ draft_of s) where
  -- the draft is refused
  pub draft_refused : ¬ (r.refusal ≡ 0) → refused_text r.refusal ≡ rewrite_text s
  draft_refused some =
      let denied = read_refused s (rw (← same) some) ∙ sym same in
      sym (text_refused s r.refusal (ap (λ (x : Reading). x.refusal) denied) some)

  module _ (none : r.refusal ≡ 0) (before after : List ℕ) (long : length before ≡ longest_file) where
    -- the writer refuses
    pub write_refused : (e : Refusal) → Writes r.policy r.queries before after (Err e) → refused_text (number_of e) ≡ rewrite_text s
    unfolding refused_reading
    write_refused e w =
        let n = number_of e in
        let asked = draft_asked s (rw (← same) none) (length before) (omega (arith, draft_short s (rw (← same) none))) in
        let first = sym asked ∙ rw same at w.0.0 in
        let denied = read_denied s (draft_of s) refl (rw (← same) none) (λ z. w.0.1 (sym first ∙ z)) in
        sym (text_refused s n (ap (λ (x : Reading). x.refusal) denied ∙ first) w.0.1)

    -- or writes the file
    pub file_written : {n : ℕ} → Writes r.policy r.queries before after (Ok n) → take n after ≡ rewrite_text s
    unfolding rewrite_text
    file_written w =
        let known = answers r.policy _ (answered_before r.policy r.queries (length before) w.0) in
        let read : read_of s ≡ r = read_passed s r (sym same) none known.levels known.weights in
        let file = file_text r.policy r.queries in
        w.2 ∙ rw read (sym (answered r.refusal refused_text file none))
