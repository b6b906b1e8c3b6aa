-- `fired` scans the rules in the world of the set.
use Rattle.policy.specs.Laws.{accepted_range, accepted_want}
use Rattle.model.specs.World.{world_of}
use Rattle.model.specs.Clears.{fired_for}
use Rattle.scan.proofs.fired.Goals as goal

pub scan-requires : goal.scan-requires
scan-requires c = record { in_range = accepted_range _ _ c.requires; want_lt_decisions = accepted_want _ _ c.requires }

pub returns : goal.returns
unfolding fired_for world_of
returns c = rw c.world-world.ensures at c.scan.ensures
