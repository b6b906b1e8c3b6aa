-- `write` is refused, or puts the file into a buffer of its own, which has room for every file, and copies it.
use Prim.Native.Nat.{ℕ, ◌≤◌}
use mathlib.Core.Path.{◌≡◌, sym, ◌∙◌}
use mathlib.Core.List.{List}
use native.Mathlib.Omega.{arith}
use lib.ListN.{length, replicate, length-replicate}
use Rattle.policy.specs.declared.Policy.{Policy}
use Rattle.policy.specs.declared.Queries.{Queries}
use Rattle.policy.specs.Questions.{record_questions}
use Rattle.std.proofs.Common.{rules, ap, Result, Ok, Err}
use Rattle.policy.specs.declared.refusal.Refusal.{Refusal}
use Rattle.policy.specs.Refusal.{outcome, refusal_of}
use Rattle.policy.specs.Laws.Refusals.{outcome_ok}
use Rattle.engine.specs.Calls.{check_record_of}
use Rattle.engine.specs.Meaning.{AllYes}
use Rattle.format.specs.Bounds.{longest_file}
use Rattle.text.specs.Put.{Puts}
use Rattle.text.specs.Laws.Putting.{Stands, stands, same_length, ends_within}
use Rattle.writer.specs.Writing.{file_text}
use Rattle.writer.specs.Claim.{AcceptedRecord}
use Rattle.writer.specs.Laws.Room.{room, no_room}
use Rattle.writer.specs.Laws.Saved.{short}
use Rattle.writer.proofs.Answers.{held, record_refused, write_refused, write_written}
use Rattle.writer.proofs.write.Goals as goal

-- no question before 10 is answered no
yes : (p : Policy) (qs : Queries) {u : Unit {0}} → Ok u ≡ outcome (check_record_of p qs) → AllYes (record_questions p qs)
unfolding check_record_of
yes p qs asked = outcome_ok _ asked

module _ (p : Policy) (qs : Queries) (ok : AcceptedRecord p qs) {after : List ℕ} {end : ℕ}
    (put : Puts (replicate longest_file 0) 0 (file_text p qs) after end) where
  -- the whole file stands in the buffer that `write` has for itself
  file_stands : Stands (replicate longest_file 0) 0 (file_text p qs) after end
  file_stands = let few = short p qs ok in stands put (omega (arith, few, length-replicate {A = ℕ} longest_file 0))

  -- so what is returned is the length of the file
  is_length : end ≡ length (file_text p qs)
  is_length = omega (arith, file_stands.ends)

-- and it is within that buffer
within : {text after : List ℕ} {end : ℕ} → Puts (replicate longest_file 0) 0 text after end → end ≤ length after
within put = omega (arith, ends_within put (omega arith), same_length put)

pub returns-in_err-check_record : goal.returns-in_err-check_record
returns-in_err-check_record c =
    let is : ◌≡◌ {A = Result ℕ Refusal} c.from_residual.result (Err c.in_err-check_record.field-0.0) = search rules in
    rw is (record_refused c.args.policy c.args.queries c.well_formed.0 c.well_formed.1.0 c.args.buffer.now
    (sym c.in_err-check_record.was ∙ c.check_record.ensures.value))

pub returns-then-buffer-end : goal.returns-then-buffer-end
unfolding outcome refusal_of
returns-then-buffer-end c =
    let all = yes c.args.policy c.args.queries (sym c.in_ok-check_record.was ∙ c.check_record.ensures.value) in
    let ok = held c.args.policy c.args.queries c.well_formed.0 c.well_formed.1.0 all in
    write_refused c.args.policy c.args.queries c.well_formed.0 c.well_formed.1.0 c.args.buffer.now
    (ap outcome (sym (no_room c.args.policy c.args.queries _ all
    (rw (← is_length c.args.policy c.args.queries ok c.start-end.ensures) c.if-buffer-end.true))))

pub returns : goal.returns
returns c =
    let all = yes c.args.policy c.args.queries (sym c.in_ok-check_record.was ∙ c.check_record.ensures.value) in
    let ok = held c.args.policy c.args.queries c.well_formed.0 c.well_formed.1.0 all in
    let is = is_length c.args.policy c.args.queries ok c.start-end.ensures in
    let copied = c.copy_from_slice.ensures.after ∙ (file_stands c.args.policy c.args.queries ok c.start-end.ensures).holds in
    let has : length (file_text c.args.policy c.args.queries) ≤ length c.args.buffer.now = rw (← is) c.if-buffer-end.false in
    rw (is, copied)
    (write_written c.args.policy c.args.queries c.well_formed.0 c.well_formed.1.0 c.args.buffer.now
    (room c.args.policy c.args.queries _ all has))
