-- Each entry is that of its action.
use Rattle.std.proofs.Common.{rules}
use Rattle.base.proofs.Making.{made}
use Rattle.columns.proofs.reach.Reach.worlds.Goals as goal

pub returns : goal.returns
returns c = made _ _ (λ i y q k. search rules) c.from_fn.ensures.items
