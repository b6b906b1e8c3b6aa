-- The text of a query: the result worked out is the calls', and so is its text.
use Rattle.std.proofs.Common.{ℕ, ◌≡◌, length, replicate, ◌∙◌, sym, ap}
use lib.ListN.{length-replicate}
use Rattle.engine.specs.Sets.{most_slim}
use Rattle.text.specs.Put.{with_text}
use Rattle.text.specs.Laws.Pens.{with_both}
use Rattle.results.proofs.Texts.{same_result}
use Rattle.results.proofs.AskedEntryTextQuery.put_entry.Goals as goal

-- the list that is lent has a place for each slim set
long : length (replicate {A = ℕ} most_slim 0) ≡ most_slim
long = length-replicate {A = ℕ} most_slim 0

pub returns : goal.returns
returns c =
    let pen = c.args.pen.now in
    let same = same_result c.args.self.now.0.now c.args.query.now c.work-result.result (replicate most_slim 0) _ long
    c.work-result.ensures in
    c.put_answer.ensures ∙ ap (with_text _) c.line.ensures ∙ sym (with_both _ _ pen) ∙ ap (λ t. with_text t pen) same
