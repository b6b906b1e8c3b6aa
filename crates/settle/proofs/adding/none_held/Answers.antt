-- The entries of the list are decisions.
use Rattle.std.proofs.iter.Serving.{serving}
use Rattle.policy.proofs.Arrays.{entry_fits}
use Rattle.settle.proofs.adding.none_held.Goals as goal

pub fold-requires-clause-callable : goal.fold-requires-clause-callable
fold-requires-clause-callable c = grind (serving, entry_fits c.requires _ c.listed.ensures)
