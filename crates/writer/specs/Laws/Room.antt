-- Question 10 is put where questions 3 to 6 are answered yes.
use Rattle.std.specs.Prelude.{ℕ, ◌≤◌, ◌<◌, [], ◌∷◌, ◌≡◌, leb, length}
use Rattle.std.proofs.Common.{sym, ◌∙◌, arith, le→leb}
use Rattle.std.proofs.Math.Decide.{dec_le}
use Rattle.std.proofs.lemmas.Bool.{lt-leb}
use Rattle.base.specs.Laws.Tests.{fails}
use Rattle.policy.specs.declared.Policy.{Policy}
use Rattle.policy.specs.Questions.{Question, first_no, queries_in_range, record_questions}
use Rattle.policy.specs.Laws.{all_yes_lem, first_no_stays, first_no_front, first_no_last, first_no_last_no}
use Rattle.policy.specs.declared.Queries.{Queries}
use Rattle.engine.specs.Meaning.{AllYes}
use Rattle.writer.specs.Writing.{file_text, write_questions}

module _ (p : Policy) (qs : Queries) (places : ℕ) where
  abbrev ten : Question
  ten = record { number = 10; yes = leb (length (file_text p qs)) places }

  pub early : ¬ AllYes (record_questions p qs) → first_no (write_questions p qs places) ≡ first_no (record_questions p qs)
  unfolding write_questions
  early ne = first_no_stays (record_questions p qs) (ten ∷ []) ne

  pub no_room : AllYes (record_questions p qs) → places < length (file_text p qs) → first_no (write_questions p qs places) ≡ 10
  unfolding write_questions
  no_room e h = first_no_last_no (record_questions p qs) ten (all_yes_lem p (queries_in_range p qs) e)
      (fails _ (lt-leb (length (file_text p qs)) places h))

  pub room : AllYes (record_questions p qs) → length (file_text p qs) ≤ places → AllYes (write_questions p qs places)
  unfolding write_questions
  room e h = first_no_last (record_questions p qs) ten (all_yes_lem p (queries_in_range p qs) e)
      (le→leb (length (file_text p qs)) places h)

  -- where all are answered yes
  pub answered_before : AllYes (write_questions p qs places) → AllYes (record_questions p qs)
  unfolding write_questions
  answered_before e = first_no_front (record_questions p qs) (ten ∷ []) e

  pub has_room : AllYes (write_questions p qs places) → length (file_text p qs) ≤ places
  has_room e = elim (dec_le (length (file_text p qs)) places) [
    | yes h ↦ h
    | no h ↦ absurd (omega (arith, sym (no_room (answered_before e) (omega arith)) ∙ e))
  ]
