-- `reader::draft` meets its contract.
use Rattle.std.proofs.Common.{◌∙◌}
use Rattle.reader.proofs.Means.{draft_means}
use Rattle.reader.proofs.draft.Goals as goal

pub returns-clause-drafts : goal.returns-clause-drafts
returns-clause-drafts c = draft_means _ (c.handed.ensures ∙ c.drafted.ensures.value)
