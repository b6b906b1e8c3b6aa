-- Each entry is what its action leads to.
use Rattle.std.proofs.Common.{rules}
use Rattle.base.proofs.Making.{made}
use Rattle.columns.proofs.reach.Reach.new.Goals as goal

pub returns-clause-leads : goal.returns-clause-leads
returns-clause-leads c = made _ _ (λ i y q k. search rules) c.from_fn.ensures.items
