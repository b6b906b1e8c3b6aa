-- What `reprice` prints: one line, or the text of each query.
use Rattle.std.proofs.Common.{sym, ◌∙◌}
use Rattle.pairs.specs.Texts.{apart_text}
use Rattle.pairs.proofs.Read.{some_refused, none_refused, of_refused, of_apart, of_queries}
use Rattle.pairs.proofs.PairTextsLONGEST_PRICES.text.Goals as goal

pub returns-in-Some : goal.returns-in-Some
returns-in-Some c =
    let number = some_refused _ (sym c.in-Some.is ∙ c.refusal.ensures) in
    of_refused _ _ c.read-first.ensures.value c.read-second.ensures.value _ _ _ _ number.0 number.1 c.only.ensures

pub returns-then-not-comparable : goal.returns-then-not-comparable
unfolding apart_text
returns-then-not-comparable c =
    of_apart _ _ c.read-first.ensures.value c.read-second.ensures.value _ _ _ _ (none_refused _ c.refusal.ensures c.in_default.not-Some)
    (sym c.comparable.ensures.value ∙ c.if-not-comparable.true) c.only-then-not-comparable.ensures

pub returns : goal.returns
returns c =
    of_queries _ _ c.read-first.ensures.value c.read-second.ensures.value _ _ _ _ (none_refused _ c.refusal.ensures c.in_default.not-Some)
    (sym c.comparable.ensures.value ∙ c.if-not-comparable.false) c.asked.ensures c.one_each.ensures
