-- `only` meets its contract: the text is put, or none is left.
use Rattle.text.specs.Laws.Handed.{only_put, only_once}
use Rattle.text.proofs.texts.only.Goals as goal

pub returns-then-i-ne0 : goal.returns-then-i-ne0
returns-then-i-ne0 g c = only_once _ _ _ c.if-i-ne0.true

pub returns : goal.returns
returns g c = only_put _ _ _ c.if-i-ne0.false c.start.ensures
