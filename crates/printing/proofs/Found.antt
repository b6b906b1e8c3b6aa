-- The text for a file, by what is refused.
use Prim.Native.Nat.{ℕ}
use mathlib.Core.List.{List}
use mathlib.Core.Path.{◌≡◌, refl, sym, ◌∙◌}
use lib.ListN.{take}
use Rattle.strata.specs.declared.Levelling.{Levelling}
use Rattle.strata.specs.Levels.{found_levels}
use Rattle.engine.specs.Calls.{refused_or}
use Rattle.engine.specs.Laws.Refusals.{answered, refused}
use Rattle.format.specs.Written.{level_text, each}
use Rattle.text.specs.Put.{refused_text}
use Rattle.reader.specs.declared.Reading.{Reading}
use Rattle.reader.specs.File.{draft_of}
use Rattle.printing.specs.Texts.{found_text, levels_text}

-- the text by what the calls return, a draft and the levels found for it
text_by : Reading → Levelling → List ℕ
text_by r f = refused_or r.refusal refused_text
    (refused_or f.refusal refused_text (each level_text (take r.policy.decisions f.level)))

module _ (s : List ℕ) {r : Reading} (drafted : r ≡ draft_of s) where
  by_calls : (f : Levelling) → f ≡ found_levels r.policy → text_by r f ≡ levels_text s
  unfolding text_by levels_text found_text
  by_calls f found = rw (found, drafted)

  -- the draft is refused
  pub draft_refused : ¬ (r.refusal ≡ 0) → refused_text r.refusal ≡ levels_text s
  unfolding text_by
  draft_refused some = sym (refused r.refusal refused_text _ some) ∙ by_calls (found_levels r.policy) refl

  module _ (none : r.refusal ≡ 0) {f : Levelling} (found : f ≡ found_levels r.policy) where
    -- no levels are found
    pub none_found : ¬ (f.refusal ≡ 0) → refused_text f.refusal ≡ levels_text s
    unfolding text_by
    none_found some = sym (answered r.refusal refused_text _ none ∙ refused f.refusal refused_text _ some) ∙ by_calls f found

    -- or they are
    pub levels_found : f.refusal ≡ 0 → each level_text (take r.policy.decisions f.level) ≡ levels_text s
    unfolding text_by
    levels_found all = sym (answered r.refusal refused_text _ none ∙ answered f.refusal refused_text _ all) ∙ by_calls f found
