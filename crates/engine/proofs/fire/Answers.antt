-- `fire` is refused, or returns the rules that fire.
use Rattle.std.proofs.Common.{sym, ◌∙◌, ap}
use Rattle.scan.specs.declared.FiredRules.{FiredRules}
use Rattle.engine.proofs.Answers.{was_answered, was_refused, fire_refused, fire_fired}
use Rattle.engine.proofs.fire.Goals as goal

pub returns-in-Err : goal.returns-in-Err
returns-in-Err c = fire_refused _ _ _ (was_refused _ _ (sym c.in-Err.is ∙ c.fired.ensures)) c.from.ensures

pub returns-in-Ok : goal.returns-in-Ok
returns-in-Ok c =
    let is = was_answered _ (sym c.in-Ok.is ∙ c.fired.ensures) in
    fire_fired _ _ _ is.0 (ap (λ (f : FiredRules). f.count) is.1) (ap (λ (f : FiredRules). f.rules) is.1)
