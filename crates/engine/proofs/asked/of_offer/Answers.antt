-- `of_offer` puts questions 3 to 6, and then 7.
use Rattle.std.proofs.Common.{rules, ℕ, Bool, ◌≡◌, sym, ◌∙◌, ap, Err, Result}
use Rattle.base.specs.Laws.Tests.{passes, fails}
use Rattle.policy.specs.declared.Policy.{Policy}
use Rattle.policy.specs.declared.Query.{Query}
use Rattle.policy.specs.declared.refusal.Refusal.{Refusal}
use Rattle.policy.specs.Questions.{first_no, questions}
use Rattle.policy.specs.Refusal.{outcome, refusal_of}
use Rattle.policy.specs.Laws.Refusals.{outcome_ok, outcome_refused, outcome_none}
use Rattle.engine.specs.Calls.{offer_in_range}
use Rattle.engine.specs.Laws.Refusals.{before7, offer_early, offer_yes, offer_no}
use Rattle.engine.proofs.asked.of_offer.Goals as goal

-- what questions 3 to 6 were answered
asked : (p : Policy) (q : Query) (s : ℕ) {r : Result (Unit {0}) Refusal} {b : Bool} → b ≡ offer_in_range p q s
    → r ≡ outcome (first_no (questions p b)) → r ≡ outcome (first_no (before7 p q s))
asked p q s fits is = rw (← fits) is

pub returns-in_err-ask : goal.returns-in_err-ask
returns-in_err-ask c =
    let is : ◌≡◌ {A = Result (Unit {0}) Refusal} c.from_residual.result (Err c.in_err-ask.field-0.0) = search rules in
    let others = sym c.in_err-ask.was ∙ asked _ _ _ c.offer_in_range.ensures c.ask.ensures in
    is ∙ others ∙ ap outcome (sym (offer_early _ _ _ (outcome_refused _ others)))

pub returns-then-not-disjoint : goal.returns-then-not-disjoint
unfolding outcome refusal_of
returns-then-not-disjoint c =
    let others = sym c.in_ok-ask.was ∙ asked _ _ _ c.offer_in_range.ensures c.ask.ensures in
    ap outcome (sym (offer_no _ _ _ (outcome_ok _ others) (fails _ (sym c.disjoint.ensures ∙ c.if-not-disjoint.true))))

pub returns : goal.returns
returns c =
    let others = sym c.in_ok-ask.was ∙ asked _ _ _ c.offer_in_range.ensures c.ask.ensures in
    sym (outcome_none _ (offer_yes _ _ _ (outcome_ok _ others) (passes _ (sym c.disjoint.ensures ∙ c.if-not-disjoint.false))))
