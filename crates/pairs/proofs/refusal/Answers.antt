-- `refusal` meets its contract.
use Rattle.std.proofs.Common.{rules, sym, ◌∙◌, ap, Some, None}
use Rattle.engine.specs.Laws.Refusals.{answered, refused}
use Rattle.policy.specs.Questions.{refused_or}
use Rattle.pairs.specs.Texts.{refusal_of}
use Rattle.pairs.proofs.Read.{record_refused}
use Rattle.pairs.proofs.refusal.Goals as goal

pub returns-then-first-ne0 : goal.returns-then-first-ne0
unfolding refusal_of
returns-then-first-ne0 c =
    sym (ap (λ n. refused_or n Some None) (refused _ (λ n. n) _ c.if-first-ne0.true) ∙ refused _ Some None c.if-first-ne0.true)

pub returns-then-second-ne0 : goal.returns-then-second-ne0
unfolding refusal_of
returns-then-second-ne0 c =
    sym (ap (λ n. refused_or n Some None)
    (answered _ (λ n. n) _ c.if-first-ne0.false ∙ refused _ (λ n. n) _ c.if-second-ne0.true) ∙ refused _ Some None c.if-second-ne0.true)

pub returns : goal.returns
unfolding refusal_of
returns c =
    record_refused c.args.second.now.policy c.args.first.now.queries c.check_record.ensures.value c.err.ensures.value (search rules)
    ∙ sym (ap (λ n. refused_or n Some None) (answered _ (λ n. n) _ c.if-first-ne0.false ∙ answered _ (λ n. n) _ c.if-second-ne0.false))
