-- A file mended: with the levels found for its policy in place of its own.
use Rattle.std.specs.Prelude.{ℕ, ◌<◌, true, List, ◌≡◌}
use Rattle.policy.specs.Record.{with_levels}
use Rattle.policy.specs.Questions.{weights_fit}
use Rattle.strata.specs.declared.Levelling.{Levelling}
use Rattle.strata.specs.Levels.{found_levels}
use Rattle.engine.specs.Same.{SameAnswers}
use Rattle.format.specs.Written.{file_of}
use Rattle.reader.specs.declared.Reading.{Reading}
use Rattle.reader.specs.File.{draft_of, read_of}
use Rattle.reader.specs.Claim.{AcceptedFile, query_of}

module _ (s : List ℕ) where
  -- the levels found for what the file drafts, and the draft with them
  abbrev pub found : Levelling
  found = found_levels (draft_of s).policy

  abbrev pub mended : Reading
  mended = record { refusal = 0; policy = with_levels (draft_of s).policy found.level; queries = (draft_of s).queries }

  pub record Mends : Type 0 where
    -- where levels are found and question 6 is answered yes, the mended file is accepted and read as the draft with these levels
    pub read : (draft_of s).refusal ≡ 0 → found.refusal ≡ 0 → weights_fit (draft_of s).policy ≡ true
        → read_of (file_of mended.policy mended.queries.count mended.queries.at) ≡ mended
    -- for an accepted file they are found, and its queries are answered alike
    pub finds : AcceptedFile s → found.refusal ≡ 0
    pub alike : AcceptedFile s → (i : ℕ) → i < (read_of s).queries.count
        → SameAnswers (read_of s).policy mended.policy (query_of (read_of s) i)
