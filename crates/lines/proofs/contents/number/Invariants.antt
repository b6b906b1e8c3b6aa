-- What is spelt by the digits read and by those that are left.
use Rattle.std.proofs.Common.{◌≡◌, ◌<◌, ◌^◌, drop}
use Rattle.format.specs.Format.{spelt}
use Rattle.lines.proofs.contents.number.Given as goal

abbrev pub invariant-loop-b : goal.invariant-loop-b
invariant-loop-b l = (spelt l.number (drop l.b-index l.c) ≡ spelt 0 l.c) × (l.number < 10 ^ l.b-index)
