-- `judge` is refused, or tells whether rules fire and what the set costs.
use Rattle.std.proofs.Common.{rules, ◌≡◌, sym, ◌∙◌, ap, Err}
use Rattle.policy.specs.Laws.Refusals.{outcome_refuses}
use Rattle.scan.specs.declared.FiredRules.{FiredRules}
use Rattle.engine.specs.Calls.{Verdict, judge_of, enough}
use Rattle.engine.specs.Laws.Refusals.{answered}
use Rattle.engine.proofs.Answers.{judged, was_answered, was_refused}
use Rattle.engine.proofs.judge.Goals as goal

pub returns-in_err-fired : goal.returns-in_err-fired
unfolding judge_of
returns-in_err-fired c =
    let is : ◌≡◌ {A = Verdict} c.from_residual.result (Err c.in_err-fired.field-0.0) = search rules in
    judged _ _ _ (is ∙ outcome_refuses _ _ (was_refused _ _ (sym c.in_err-fired.was ∙ c.fired.ensures)))

pub returns : goal.returns
unfolding judge_of enough
returns c =
    let is = was_answered _ (sym c.in_ok-fired.was ∙ c.fired.ensures) in
    judged _ _ _ (rw (← c.cost.ensures, ← ap (λ (f : FiredRules). f.count) is.1) (sym (answered _ _ _ is.0)))
