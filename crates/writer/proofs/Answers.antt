-- What the writer answers, where it is refused and where it is not.
use Prim.Native.Nat.{ℕ}
use mathlib.Core.List.{List, ◌++◌}
use mathlib.Core.Path.{◌≡◌, sym, ◌∙◌, ap}
use denote.Shadow.{shadow}
use lib.ListN.{length, drop}
use mir.Val.{Val}
use Rattle.std.proofs.Common.{Result, Ok, Err}
use Rattle.policy.specs.declared.Policy.{Policy}
use Rattle.policy.specs.Questions.{first_no, queries_in_range, record_questions}
use Rattle.policy.specs.Laws.{answers, in_range_lem}
use Rattle.policy.specs.contracts.Policy as policy
use Rattle.policy.proofs.Owned.{policy_owned, queries_owned}
use Rattle.policy.specs.declared.Queries.{Queries}
use Rattle.policy.specs.contracts.Queries as queries
use Rattle.policy.specs.declared.refusal.Refusal.{Refusal}
use Rattle.policy.specs.Refusal.{outcome}
use Rattle.policy.specs.Laws.Refusals.{outcome_refused, outcome_refuses}
use Rattle.engine.specs.Calls.{check_record_of}
use Rattle.engine.specs.Meaning.{AllYes}
use Rattle.engine.specs.Laws.Refusals.{refused}
use Rattle.writer.specs.Writing.{file_text, write_questions, write_of, write_after, Writes}
use Rattle.writer.specs.Claim.{AcceptedRecord}
use Rattle.writer.specs.Laws.Room.{early}
use Rattle.writer.specs.Laws.Saved.{length_written, file_written, write_means}

-- p, qs and `before` are written out at each use: tried: implicit, they were not determined
module _ (p : Policy) (qs : Queries) {vs ws : List Val}
    (own : shadow ((policy.the_row).own_val p vs)) (owns : shadow ((queries.the_row).own_val qs ws)) where
  -- a record that a function owns is in arrays of its structs' lengths
  pub held : AllYes (record_questions p qs) → AcceptedRecord p qs
  held all = record {
    policy = policy_owned p _ own (in_range_lem p (answers p (queries_in_range p qs) all).range).rules;
    queries = queries_owned qs _ owns;
    answers = all;
  }

  module _ (before : List ℕ) where
    -- what is promised of the answer and of the buffer afterwards
    abbrev Answered : Result ℕ Refusal → List ℕ → Type 0
    Answered r after = record {
      value : r ≡ write_of p qs (length before);
      buffer_after : after ≡ write_after p qs before;
      writes : Writes p qs before after r;
    }

    promised : {r : Result ℕ Refusal} {after : List ℕ} → r ≡ write_of p qs (length before) → after ≡ write_after p qs before → Answered r after
    promised e f = record { value = e; buffer_after = f; writes = rw (e, f) (write_means p qs before held) }

    -- a refusal writes nothing
    pub write_refused : {e : Refusal} → Err e ≡ outcome (first_no (write_questions p qs (length before))) → Answered (Err e) before
    unfolding write_of write_after
    write_refused is = promised (outcome_refuses _ _ is) (sym (refused _ _ _ (outcome_refused _ is)))

    -- nor does that of a record that is not accepted
    pub record_refused : {e : Refusal} → Err e ≡ outcome (check_record_of p qs) → Answered (Err e) before
    unfolding check_record_of
    record_refused is = write_refused (is ∙ ap outcome (sym (early p qs (length before) (outcome_refused _ is))))

    -- else the file stands in front
    pub write_written : AllYes (write_questions p qs (length before))
        → Answered (Ok (length (file_text p qs))) (file_text p qs ++ drop (length (file_text p qs)) before)
    write_written all = promised (sym (length_written p qs before all)) (sym (file_written p qs before all))
