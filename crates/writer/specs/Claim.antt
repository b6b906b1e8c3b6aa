-- What is claimed of the files that the writer writes (document 02, F-2).
use Rattle.std.specs.Prelude.{ℕ, ◌≤◌, List, ◌++◌, ◌≡◌, length, drop, Ok}
use Rattle.policy.specs.declared.Policy.{Policy}
use Rattle.policy.specs.Record.{Agree, Sized}
use Rattle.policy.specs.declared.Queries.{Queries}
use Rattle.policy.specs.Questions.{record_questions}
use Rattle.engine.specs.Meaning.{AllYes}
use Rattle.format.specs.Bounds.{longest_file}
use Rattle.reader.specs.File.{read_of}
use Rattle.reader.specs.Claim.{AcceptedFile}
use Rattle.writer.specs.Writing.{AgreeQueries, file_text, write_of, write_after, Writes}

-- a policy and its queries that a program holds, in arrays as long as their structs declare, and accepted
pub record AcceptedRecord (p : Policy) (qs : Queries) : Type 0 where
  pub policy : Sized p
  pub queries : length qs.at ≡ 64
  pub answers : AllYes (record_questions p qs)

-- two records give the same bytes and the same answer, with every buffer
pub record SameFile (p : Policy) (qs : Queries) (p' : Policy) (qs' : Queries) : Type 0 where
  pub bytes : file_text p qs ≡ file_text p' qs'
  pub answer : (places : ℕ) → write_of p qs places ≡ write_of p' qs' places
  pub after : (before : List ℕ) → write_after p qs before ≡ write_after p' qs' before

-- s is what the writer makes of the record that is read from it, with every buffer that has room for s
pub record Rewritten (s : List ℕ) (before : List ℕ) : Type 0 where
  pub answer : write_of (read_of s).policy (read_of s).queries (length before) ≡ Ok (length s)
  pub after : write_after (read_of s).policy (read_of s).queries before ≡ s ++ drop (length s) before

pub record Saves : Type 0 where
  -- the file written of an accepted record is read back as the same record with unused entries zero
  pub back : (p : Policy) (qs : Queries) → AcceptedRecord p qs → (before : List ℕ)
      → Writes p qs before (write_after p qs before) (write_of p qs (length before))
  -- it is short, so that question 1 is never in its way
  pub short : (p : Policy) (qs : Queries) → AcceptedRecord p qs → length (file_text p qs) ≤ longest_file
  -- records that agree below their counts give the same bytes
  pub same : (p p' : Policy) (qs qs' : Queries) → Agree p p' → AgreeQueries qs qs' → SameFile p qs p' qs'
  -- each accepted file is the writer's output for its record
  pub whole : (s : List ℕ) → AcceptedFile s → (before : List ℕ) → length s ≤ length before → Rewritten s before
