-- `Pen::put` meets its contract: as much of the text is copied as has room, or nothing.
use Rattle.std.proofs.Common.{arith}
use Rattle.text.specs.Laws.Pens.{is_with}
use Rattle.text.proofs.Copied.{full}
use Rattle.text.proofs.Pen.put.Goals as goal

pub returns-else-self : goal.returns-else-self
returns-else-self c = is_with _ _ _ _ (full _ _ _ (omega arith))
