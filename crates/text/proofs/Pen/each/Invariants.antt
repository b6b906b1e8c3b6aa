-- The loop of `Pen::each`: the texts so far are put.
use Rattle.std.proofs.Common.{◌≡◌, take}
use Rattle.format.specs.Written.{each}
use Rattle.text.specs.Put.{with_text}
use Rattle.text.proofs.Pen.each.Given as goal

abbrev pub invariant-loop-text : goal.invariant-loop-text
invariant-loop-text g l = l.self ≡ with_text (each g.T.Text.text (take l.text-index l.texts)) l.initial.self
