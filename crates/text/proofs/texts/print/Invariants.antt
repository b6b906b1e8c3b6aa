-- The loop of `print`: the buffer keeps its length, and each turn leaves fewer texts.
use Rattle.std.proofs.Common.{◌-◌, ◌≡◌, length}
use Rattle.text.proofs.texts.print.Given as goal

abbrev pub invariant-loop-i : goal.invariant-loop-i
invariant-loop-i g l = length l.buffer ≡ length l.initial.buffer

abbrev pub decreases-loop-i : goal.decreases-loop-i
decreases-loop-i g l = length (g.T.Texts.texts l.texts) - l.i-iterator.start
