-- What the writer returns, and what the lent buffer holds afterwards.
use Rattle.std.specs.Prelude.{ℕ, List, [], ◌∷◌, ◌++◌, ◌≡◌, leb, length, take, drop, Result, Ok, Err}
use Rattle.policy.specs.declared.Policy.{Policy}
use Rattle.policy.specs.Record.{Agree}
use Rattle.policy.specs.declared.refusal.Refusal.{Refusal}
use Rattle.policy.specs.Refusal.{number_of, refuse}
use Rattle.policy.specs.Questions.{Question, first_no, record_questions}
use Rattle.policy.specs.declared.Queries.{Queries}
use Rattle.engine.specs.Calls.{refused_or}
use Rattle.engine.specs.Meaning.{Refuses, AllYes}
use Rattle.format.specs.Written.{file_of}
use Rattle.reader.specs.declared.Reading.{Reading}
use Rattle.reader.specs.File.{read_of}
use Rattle.reader.specs.Claim.{Clear}

-- queries without the entries past their count; two that agree below their counts
abbrev pub cut_queries : Queries → Queries
cut_queries qs = record { count = qs.count; at = take qs.count qs.at }

abbrev pub AgreeQueries : Queries → Queries → Type 0
AgreeQueries qs qs' = cut_queries qs ≡ cut_queries qs'

module _ (p : Policy) (qs : Queries) where
  -- the file that states them
  abbrev pub file_text : List ℕ
  file_text = file_of p qs.count qs.at

  -- questions 3 to 6 to the policy with its queries, and then 10: has a buffer of so many bytes room for the file?
  unfoldable pub write_questions : ℕ → List Question
  write_questions places = record_questions p qs ++ (record { number = 10; yes = leb (length file_text) places } ∷ [])

  unfoldable pub write_of : ℕ → Result ℕ Refusal
  write_of places = refused_or (first_no (write_questions places)) refuse (Ok (length file_text))

  -- what the buffer holds afterwards
  unfoldable pub write_after : List ℕ → List ℕ
  write_after before = refused_or (first_no (write_questions (length before))) (λ n. before) (file_text ++ drop (length file_text) before)

  -- what is read back is the same record with unused entries zero
  pub record ReadBack (r : Reading) : Type 0 where
    pub none : r.refusal ≡ 0
    pub policy : Agree p r.policy
    pub queries : AgreeQueries qs r.queries
    pub clear : Clear r

  -- what each case of the answer means, where the buffer held `before` and holds `after`: the file stands at its start, and is
  -- read back; the bytes past it are as they were
  abbrev pub Writes : List ℕ → List ℕ → Result ℕ Refusal → Type 0
  Writes before after (Err e) = Refuses (write_questions (length before)) (number_of e) × (after ≡ before)
  Writes before after (Ok n) =
      AllYes (write_questions (length before)) × (n ≡ length file_text) × (take n after ≡ file_text) × (drop n after ≡ drop n before)
      × ReadBack (read_of (take n after))
