-- A refusal is put, or the levels found; and either is the text for the file.
use Rattle.std.proofs.Common.{◌∙◌, ap}
use Rattle.format.specs.Written.{each, level_text}
use Rattle.text.specs.Put.{with_text}
use Rattle.printing.proofs.Found.{draft_refused, none_found, levels_found}
use Rattle.printing.proofs.LevelledText.put.Goals as goal

pub returns-then-draft-ne0 : goal.returns-then-draft-ne0
returns-then-draft-ne0 c =
    c.put.ensures ∙ ap (λ t. with_text t c.args.pen.now) (draft_refused _ c.draft-draft.ensures.value c.if-draft-ne0.true)

pub returns-then-found-ne0 : goal.returns-then-found-ne0
returns-then-found-ne0 c =
    c.put-then-found-ne0.ensures ∙ ap (λ t. with_text t c.args.pen.now)
    (none_found _ c.draft-draft.ensures.value c.if-draft-ne0.false c.levels-found.ensures.value c.if-found-ne0.true)

pub returns : goal.returns
unfolding level_text
returns c =
    c.lines.ensures ∙ ap (λ t. with_text t c.args.pen.now)
    (ap (each level_text) c.front.ensures.value
    ∙ levels_found _ c.draft-draft.ensures.value c.if-draft-ne0.false c.levels-found.ensures.value c.if-found-ne0.false)
