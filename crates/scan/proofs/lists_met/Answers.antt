-- The decisions of both lists are below the bound.
use Rattle.policy.proofs.Arrays.{entry_fits}
use Rattle.scan.proofs.lists_met.Goals as goal

pub all_held-requires : goal.all_held-requires
all_held-requires c = entry_fits c.requires.ifs _ c.listed.ensures

pub none_held-requires : goal.none_held-requires
none_held-requires c = entry_fits c.requires.unless _ c.listed-then-all_held.ensures
