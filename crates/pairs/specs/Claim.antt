-- What `reprice` prints for two files, by what the call `reprice` returns for each query of the first.
use Rattle.std.specs.Prelude.{ℕ, ◌<◌, List, [], ◌∷◌, ◌≢◌, ◌≡◌, length, Some, None, Ok}
use Rattle.policy.specs.declared.Policy.{Policy}
use Rattle.policy.specs.Questions.{check_record_of}
use Rattle.alike.specs.Comparable.{Comparable}
use Rattle.repricing.specs.declared.Prices.{Prices}
use Rattle.repricing.specs.Call.{Repriced, reprice_of}
use Rattle.text.specs.Put.{refused_text}
use Rattle.text.specs.Handing.{text_at}
use Rattle.reader.specs.File.{read_of}
use Rattle.reader.specs.Claim.{AcceptedFile, query_of}
use Rattle.pairs.specs.Texts.{prices_text, apart_text, reprice_texts}

module _ (s s' : List ℕ) where
  -- the policies of both files, what the call returns for query i of the first, and how many there are
  abbrev pub old : Policy
  old = (read_of s).policy

  abbrev pub new : Policy
  new = (read_of s').policy

  abbrev pub count : ℕ
  count = (read_of s).queries.count

  abbrev pub answer_to : ℕ → Repriced
  answer_to i = reprice_of old new (query_of (read_of s) i)

  pub record FilesRepriced : Type 0 where
    -- a refused file gives one line, the first's before the second's
    pub first : (read_of s).refusal ≢ 0 → reprice_texts s s' ≡ refused_text (read_of s).refusal ∷ []
    pub second : AcceptedFile s → (read_of s').refusal ≢ 0 → reprice_texts s s' ≡ refused_text (read_of s').refusal ∷ []
    -- of two accepted files with comparable policies there is a text for each query of the first: the two costs that the call returns
    pub many : AcceptedFile s → AcceptedFile s' → Comparable old new → length (reprice_texts s s') ≡ count
    pub each : AcceptedFile s → AcceptedFile s' → Comparable old new → (i : ℕ) → i < count
        → (c : Prices) × (answer_to i ≡ Ok (Some c)) × (text_at (reprice_texts s s') i ≡ prices_text (query_of (read_of s) i).want c)
    -- with others there is one line: that they are not comparable, and so the call says for each query; or the refusal, where the
    -- second's policy is refused with a query of the first
    pub apart : AcceptedFile s → AcceptedFile s' → ¬ Comparable old new → check_record_of new (read_of s).queries ≡ 0
        → (reprice_texts s s' ≡ apart_text ∷ []) × ((i : ℕ) → i < count → answer_to i ≡ Ok None)
    pub over : AcceptedFile s → AcceptedFile s' → check_record_of new (read_of s).queries ≢ 0
        → reprice_texts s s' ≡ refused_text (check_record_of new (read_of s).queries) ∷ []
