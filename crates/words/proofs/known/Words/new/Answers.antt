-- None is known.
use Rattle.words.specs.Laws.Known.{known_none}
use Rattle.words.proofs.known.Words.new.Goals as goal

pub invariant_of-result : goal.invariant_of-result
invariant_of-result c = record { right = known_none _ _ }
