-- What is drafted from a file is asked by the writer what the reader has still to ask: questions 5 and 6.
use Rattle.std.specs.Prelude.{ℕ, ◌≤◌, Bool, true, false, List, [], ◌∷◌, ◌≡◌, refl, T, length}
use Rattle.std.proofs.Common.{◌∙◌, le→leb}
use Rattle.policy.specs.Questions.{Question, first_no, levels_fit, weights_fit}
use Rattle.policy.specs.Laws.{first_no_yes}
use Rattle.format.specs.Bounds.{longest_file}
use Rattle.reader.specs.File.{draft_of}
use Rattle.reader.specs.Laws.Files.{number, drafted}
use Rattle.reader.specs.Laws.Readings.{reading_length}
use Rattle.reader.specs.Laws.States.{draft_states, draft_questions}
use Rattle.writer.specs.Writing.{file_text, write_questions}

-- a last question answered yes is passed over
last_yes : (a b : Bool) (q : Question) → T q.yes
    → first_no (record { number = 5; yes = a } ∷ record { number = 6; yes = b } ∷ q ∷ []) ≡ number a b
unfolding first_no
last_yes true true q t = first_no_yes q [] t
last_yes true false q t = refl
last_yes false b q t = refl

module _ (s : List ℕ) (none : (draft_of s).refusal ≡ 0) where
  -- the file is short
  pub draft_short : length s ≤ longest_file
  draft_short = rw (drafted s none).text (reading_length (draft_of s) (drafted s none).lines)

  pub draft_asked : (places : ℕ) → length s ≤ places → let r = draft_of s in
      first_no (write_questions r.policy r.queries places) ≡ number (levels_fit r.policy) (weights_fit r.policy)
  unfolding write_questions
  draft_asked places room =
      let stated = draft_states s none in
      let file = file_text (draft_of s).policy (draft_of s).queries in
      draft_questions stated _ ∙ last_yes _ _ _ (le→leb (length file) places (rw (← stated.text) room))
