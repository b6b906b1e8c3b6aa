-- The loop that puts texts with commas between: those so far are put.
use Rattle.std.proofs.Common.{◌≡◌, map, take}
use Rattle.format.specs.Written.{joined}
use Rattle.text.specs.Put.{with_text}
use Rattle.text.proofs.lists.CommasText.put.Given as goal

abbrev pub invariant-loop-i : goal.invariant-loop-i
invariant-loop-i g l = l.pen ≡ with_text (joined (map g.T.Text.text (take l.i l.self.0.now))) l.initial.pen
