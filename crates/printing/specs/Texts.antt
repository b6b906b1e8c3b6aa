-- What `levels`, `rewrite` and `longest` print: each has one text.
use Rattle.std.specs.Prelude.{ℕ, List, [], ◌∷◌, take}
use Rattle.policy.specs.declared.Policy.{Policy}
use Rattle.strata.specs.Levels.{found_levels}
use Rattle.engine.specs.Calls.{refused_or}
use Rattle.format.specs.Written.{each, level_text}
use Rattle.text.specs.Put.{refused_text}
use Rattle.reader.specs.File.{draft_of, read_of}
use Rattle.threshold.specs.AtLeast.{at_least, stated}
use Rattle.writer.specs.Writing.{file_text}

-- no text of levels is longer, as Laws.Fits shows
abbrev pub longest_levels : ℕ
longest_levels = 2176

-- levels: a line for each level found for the policy that the file drafts, or the refusal
unfoldable pub found_text : Policy → List ℕ
found_text p = refused_or (found_levels p).refusal refused_text (each level_text (take p.decisions (found_levels p).level))

unfoldable pub levels_text : List ℕ → List ℕ
levels_text s = refused_or (draft_of s).refusal refused_text (found_text (draft_of s).policy)

abbrev pub levels_texts : List ℕ → List (List ℕ)
levels_texts s = levels_text s ∷ []

-- rewrite: the writer's file of the record that is read from the file, or the refusal
unfoldable pub rewrite_text : List ℕ → List ℕ
rewrite_text s = refused_or (read_of s).refusal refused_text (file_text (read_of s).policy (read_of s).queries)

abbrev pub rewrite_texts : List ℕ → List (List ℕ)
rewrite_texts s = rewrite_text s ∷ []

-- longest: the file that states the policy "at least j of the first i actions" and its one query
unfoldable pub longest_text : List ℕ
longest_text = file_text at_least stated.queries

abbrev pub longest_texts : List (List ℕ)
longest_texts = longest_text ∷ []
