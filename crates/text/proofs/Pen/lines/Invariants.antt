-- The loop of `Pen::lines`: the lines of the texts so far are put.
use Rattle.std.proofs.Common.{◌≡◌, take}
use Rattle.format.specs.Written.{each, line_of}
use Rattle.text.specs.Put.{with_text}
use Rattle.text.proofs.Pen.lines.Given as goal

abbrev pub invariant-loop-text : goal.invariant-loop-text
invariant-loop-text g l = l.self ≡ with_text (each (λ x. line_of l.key (g.T.Text.text x)) (take l.text-index l.texts)) l.initial.self
