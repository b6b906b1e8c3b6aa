-- `fired` is refused, or tells the rules that the scan fires.
use Rattle.std.proofs.Common.{rules, ◌≡◌, sym, ◌∙◌, Err, Result}
use Rattle.policy.specs.declared.refusal.Refusal.{Refusal}
use Rattle.policy.specs.Laws.Refusals.{outcome_ok, outcome_refuses}
use Rattle.scan.specs.declared.FiredRules.{FiredRules}
use Rattle.engine.specs.Laws.Refusals.{answered, offer_accepted}
use Rattle.engine.proofs.fired.Goals as goal

pub returns-in_err-of_offer : goal.returns-in_err-of_offer
returns-in_err-of_offer c =
    let is : ◌≡◌ {A = Result FiredRules Refusal} c.from_residual.result (Err c.in_err-of_offer.field-0.0) = search rules in
    is ∙ outcome_refuses _ _ (sym c.in_err-of_offer.was ∙ c.of_offer.ensures)

pub fired-requires : goal.fired-requires
fired-requires c = (offer_accepted _ _ _ (outcome_ok _ (sym c.in_ok-of_offer.was ∙ c.of_offer.ensures))).0

pub returns : goal.returns
returns c =
    rw (← c.fired.ensures.count_value, ← c.fired.ensures.rules_value)
    (sym (answered _ _ _ (outcome_ok _ (sym c.in_ok-of_offer.was ∙ c.of_offer.ensures))))
