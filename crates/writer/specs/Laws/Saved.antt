-- The file of an accepted record is read back, and each accepted file is what the writer makes of its record.
use Rattle.std.specs.Prelude.{ℕ, zero, suc, ◌≤◌, ◌<◌, true, List, ◌++◌, ◌≡◌, refl, length, take, get_or, drop, Ok}
use Rattle.std.proofs.Math.Path.{sym, ap}
use Rattle.std.proofs.Common.{◌∙◌, arith, take_at, drop_at}
use Rattle.std.proofs.Math.Seq.{length-take-le}
use Rattle.base.specs.Laws.Tests.{is_true}
use Rattle.base.specs.Laws.Lists.{filled_front}
use Rattle.policy.specs.declared.Policy.{Policy}
use Rattle.policy.specs.Questions.{first_no, query_in_range, queries_in_range, questions, record_questions, check_record_of}
use Rattle.policy.specs.Laws.{Answers, answers, first_no_most}
use Rattle.policy.specs.declared.Queries.{Queries}
use Rattle.engine.specs.Calls.{refused_or}
use Rattle.engine.specs.Meaning.{AllYes}
use Rattle.engine.specs.Laws.Refusals.{answered}
use Rattle.format.specs.Bounds.{longest_file}
use Rattle.format.specs.Entries.{zero_query}
use Rattle.format.specs.Laws.Stated.{agrees}
use Rattle.reader.specs.declared.Reading.{Reading}
use Rattle.reader.specs.File.{reading_of, read_of}
use Rattle.reader.specs.Laws.Cleared.{cleared_reading}
use Rattle.reader.specs.Claim.{AcceptedFile, States}
use Rattle.reader.specs.Laws.Back.{queries_few, queries_fit, file_short, reads_back}
use Rattle.reader.specs.Laws.States.{states}
use Rattle.policy.specs.Refusal.{number_of, refusal_of, refuse}
use Rattle.policy.specs.Laws.Refusals.{number_of_refusal}
use Rattle.writer.specs.Writing.{file_text, write_questions, write_of, write_after, ReadBack, Writes}
use Rattle.writer.specs.Claim.{AcceptedRecord, Rewritten}
use Rattle.writer.specs.Laws.Room.{room, answered_before}

-- what the questions say of an accepted record
module _ (p : Policy) (qs : Queries) (ok : AcceptedRecord p qs) where
  known : Answers p (queries_in_range p qs)
  known = answers p (queries_in_range p qs) ok.answers

  few : qs.count ≤ 64
  few = queries_few p qs ok.queries known.given

  each_query : (i : ℕ) → i < qs.count → query_in_range p (get_or qs.at i zero_query) ≡ true
  each_query = queries_fit p qs ok.queries known.given

  pub short : length (file_text p qs) ≤ longest_file
  short = file_short p qs.count qs.at ok.policy ok.queries few (is_true _ known.range) (is_true _ known.rise) each_query

  pub reads_written : read_of (file_text p qs) ≡ cleared_reading p qs.count qs.at
  reads_written = reads_back p qs.count qs.at ok.policy ok.queries few (is_true _ known.range) (is_true _ known.rise)
      each_query (is_true _ known.levels) (is_true _ known.weights)

  -- it is the same record with unused entries zero
  read_back : ReadBack p qs (read_of (file_text p qs))
  unfolding cleared_reading reading_of
  read_back =
      let none = ap (λ (x : Reading). x.refusal) reads_written in
      let count = length-take-le qs.count qs.at (omega (arith, few, ok.queries)) in
      record {
        none = none;
        policy = rw reads_written (agrees p ok.policy (is_true _ known.range) (is_true _ known.rise));
        queries = rw reads_written (λ i. record {
          count = sym count i;
          at = sym (filled_front 64 _ zero_query (take qs.count qs.at) refl) i;
        });
        clear = (states (file_text p qs) none).draft.clear;
      }

-- what is written where no question is answered no
module _ (p : Policy) (qs : Queries) (before : List ℕ) (yes : AllYes (write_questions p qs (length before))) where
  pub length_written : write_of p qs (length before) ≡ Ok (length (file_text p qs))
  unfolding write_of
  length_written = answered _ _ _ yes

  pub file_written : write_after p qs before ≡ file_text p qs ++ drop (length (file_text p qs)) before
  unfolding write_after
  file_written = answered _ _ _ yes

-- no question has a number past 10
write_few : (p : Policy) (qs : Queries) (places : ℕ) → first_no (write_questions p qs places) ≤ 10
unfolding write_questions questions
write_few p qs places = first_no_most 10 (write_questions p qs places) tt

-- what is returned means what each case says, for a record in arrays of its structs' lengths
pub write_means : (p : Policy) (qs : Queries) (before : List ℕ) → (AllYes (record_questions p qs) → AcceptedRecord p qs)
    → Writes p qs before (write_after p qs before) (write_of p qs (length before))
unfolding write_of write_after refused_or
write_means p qs before held = go (first_no (write_questions p qs (length before))) refl
  where
    go : (n : ℕ) → first_no (write_questions p qs (length before)) ≡ n
        → Writes p qs before (refused_or n (λ k. before) (file_text p qs ++ drop (length (file_text p qs)) before))
        (refused_or n refuse (Ok (length (file_text p qs))))
    go zero e =
        let file = file_text p qs in
        let front = take_at file (drop (length file) before) (length file) refl in (
          e,
          refl,
          front,
          drop_at file (drop (length file) before) (length file) refl,
          rw front (read_back p qs (held (answered_before p qs (length before) e))),
        )
    go (suc n) e =
        let few = write_few p qs (length before) in
        let same : number_of (refusal_of (suc n)) ≡ suc n = number_of_refusal (suc n) (λ z. omega arith) (omega (arith, e, few)) in
        ((e ∙ sym same, λ z. omega (arith, same)), refl)

module _ (s : List ℕ) (accepted : AcceptedFile s) where
  stated : States s (read_of s)
  stated = states s accepted

  -- questions 3 to 6 are answered yes to what it states
  record_accepted : AllYes (record_questions (read_of s).policy (read_of s).queries)
  unfolding check_record_of
  record_accepted = stated.accepted

  pub whole : (before : List ℕ) → length s ≤ length before → Rewritten s before
  whole before h =
      let p = (read_of s).policy in
      let qs = (read_of s).queries in
      let text : file_text p qs ≡ s = sym stated.draft.text in
      let yes = room p qs (length before) record_accepted (rw text h) in
      record {
        answer = length_written p qs before yes ∙ ap (λ t. Ok (length t)) text;
        after = file_written p qs before yes ∙ ap (λ t. t ++ drop (length t) before) text;
      }
