-- `Pen::lines` meets its contract: each turn puts one more line.
use Rattle.std.proofs.Common.{sym, ◌∙◌, ap₂, arith, List, ℕ}
use Rattle.format.specs.Written.{each, line_of}
use Rattle.text.specs.Put.{with_text}
use Rattle.text.specs.Laws.Pens.{with_none}
use Rattle.text.specs.Laws.Entries.{one_text}
use Rattle.text.proofs.Pen.lines.Goals as goal

pub loop-text-init : goal.loop-text-init
unfolding each
loop-text-init g c = sym (with_none c.args.self.now)

pub loop-text-preserved : goal.loop-text-preserved
loop-text-preserved g c =
    let a = c.args in
    let loop = c.loop-text in
    let text = c.text-item.result in
    let line : g.row.T.Denot → List ℕ = λ x. line_of a.key.now (g.T.Text.text x) in
    c.line.ensures ∙ ap₂ (λ x p. with_text (line x) p) c.text-item.is loop.invariant
    ∙ sym (one_text line a.texts.now text loop.text-index a.self.now (omega arith))
