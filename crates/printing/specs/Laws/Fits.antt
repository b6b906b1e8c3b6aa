-- No text is longer than its bound.
use Rattle.std.specs.Prelude.{ℕ, ◌≤◌, List, ◌≡◌, refl, length, take}
use Rattle.std.proofs.Common.{◌∙◌, ap, arith, length-take}
use Rattle.std.proofs.Math.Decide.{ℕ_discrete}
use Rattle.policy.specs.declared.Policy.{Policy}
use Rattle.strata.specs.Levels.{found_levels}
use Rattle.strata.specs.Laws.Levels.{finds_levels}
use Rattle.engine.specs.Calls.{refused_or}
use Rattle.engine.specs.Laws.Refusals.{answered, refused}
use Rattle.format.specs.Bounds.{longest_file}
use Rattle.format.specs.Written.{level_text, each}
use Rattle.format.specs.Laws.Lengths.{ten_digits, line_length, each_length}
use Rattle.text.specs.Put.{refused_text}
use Rattle.text.specs.Handing.{text_at}
use Rattle.text.specs.Laws.Entries.{refused_length}
use Rattle.text.specs.Laws.Handed.{only_fits}
use Rattle.reader.specs.declared.Reading.{Reading}
use Rattle.reader.specs.File.{draft_of, read_of}
use Rattle.reader.specs.Laws.Files.{draft_of_accepted}
use Rattle.writer.specs.Laws.Drafts.{draft_short}
use Rattle.printing.specs.Texts.{longest_levels, found_text, levels_text, levels_texts, rewrite_text, rewrite_texts}
use Rattle.printing.specs.Laws.Rewritten.{rewritten, text_refused}

-- a refusal, or a text that fits where there is none
either_fits : (size n : ℕ) (text : List ℕ) → 19 ≤ size → (n ≡ 0 → length text ≤ size) → length (refused_or n refused_text text) ≤ size
either_fits size n text room fits = elim (ℕ_discrete n 0) [
  | yes none ↦ rw (answered n refused_text text none) (fits none)
  | no some ↦ rw (refused n refused_text text some) (omega (arith, refused_length n))
]

-- ---- levels
level_length : (l : ℕ) → length (level_text l) ≤ 17
unfolding level_text
level_length l = rw line_length (omega (arith, ten_digits l))

found_fits : (p : Policy) → length (found_text p) ≤ longest_levels
unfolding found_text
found_fits p =
    let levels = take p.decisions (found_levels p).level in
    either_fits longest_levels (found_levels p).refusal (each level_text levels) (omega arith) (λ none.
    omega (
      arith,
      each_length level_text 17 levels (λ l m. level_length l),
      length-take p.decisions (found_levels p).level,
      ((finds_levels p).found none).places,
    ))

pub levels_fit_lem : (s : List ℕ) (i : ℕ) → length (text_at (levels_texts s) i) ≤ longest_levels
unfolding levels_text
levels_fit_lem s i = only_fits longest_levels (levels_text s) i
    (either_fits longest_levels (draft_of s).refusal (found_text (draft_of s).policy) (omega arith) (λ none. found_fits (draft_of s).policy))

-- ---- rewrite
rewritten_fits : (s : List ℕ) → length (rewrite_text s) ≤ longest_file
rewritten_fits s = elim (ℕ_discrete (read_of s).refusal 0) [
  | yes none ↦ rw (rewritten s none) (draft_short s (ap (λ (r : Reading). r.refusal) (draft_of_accepted s none) ∙ none))
  | no some ↦ rw (text_refused s (read_of s).refusal refl some) (omega (arith, refused_length (read_of s).refusal))
]

pub rewrite_fits : (s : List ℕ) (i : ℕ) → length (text_at (rewrite_texts s) i) ≤ longest_file
rewrite_fits s i = only_fits longest_file (rewrite_text s) i (rewritten_fits s)
