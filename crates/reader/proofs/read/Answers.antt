-- `reader::read` meets its contract.
use Rattle.std.proofs.Common.{◌∙◌}
use Rattle.reader.proofs.Means.{read_means}
use Rattle.reader.proofs.read.Goals as goal

pub returns-clause-reads : goal.returns-clause-reads
returns-clause-reads c = read_means _ (c.handed.ensures ∙ c.checked.ensures)
