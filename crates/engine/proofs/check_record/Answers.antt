-- `check_record` puts questions 3 to 6 to the policy with its queries.
use Rattle.engine.specs.Calls.{check_record_of}
use Rattle.engine.proofs.Answers.{checked}
use Rattle.engine.proofs.check_record.Goals as goal

pub returns : goal.returns
unfolding check_record_of
returns c = checked _ _ (rw (← c.queries_in_range-queries_fit.ensures) c.ask.ensures)
