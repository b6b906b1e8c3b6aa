-- `asked` meets its contract: the if decisions are looked at first, then the unless decisions.
use Rattle.strata.specs.Levels.{asked}
use Rattle.strata.proofs.raising.asked.Goals as goal

pub returns : goal.returns
unfolding asked
returns c = rw (← c.above-own.ensures) c.above.ensures
