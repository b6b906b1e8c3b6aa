-- `check` meets its contract.
use Rattle.std.proofs.Common.{ap, ◌∙◌}
use Rattle.policy.specs.Refusal.{outcome}
use Rattle.repricing.proofs.Answers.{one_query}
use Rattle.repricing.proofs.check.Goals as goal

pub returns : goal.returns
returns c = c.check_record.ensures.value ∙ ap outcome (one_query _ _)
