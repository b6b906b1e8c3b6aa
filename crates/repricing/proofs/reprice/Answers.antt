-- `reprice` meets its contract.
use Rattle.std.proofs.Common.{rules, ◌≡◌, sym, ◌∙◌, Err}
use Rattle.repricing.specs.Call.{Repriced}
use Rattle.repricing.proofs.Answers.{first_refused, second_refused, not_comparable, compared}
use Rattle.repricing.proofs.reprice.Goals as goal

pub returns-in_err-check : goal.returns-in_err-check
returns-in_err-check c =
    let is : ◌≡◌ {A = Repriced} c.from_residual.result (Err c.in_err-check.field-0.0) = search rules in
    rw is (first_refused _ c.args.after _ (sym c.in_err-check.was ∙ c.check.ensures))

pub returns-in_err-check-2 : goal.returns-in_err-check-2
returns-in_err-check-2 c =
    let is : ◌≡◌ {A = Repriced} c.from_residual-in_err-check-2.result (Err c.in_err-check-2.field-0.0) = search rules in
    rw is (second_refused _ _ _ (sym c.in_ok-check.was ∙ c.check.ensures) (sym c.in_err-check-2.was ∙ c.check-2.ensures))

pub returns-then-not-comparable : goal.returns-then-not-comparable
returns-then-not-comparable c =
    not_comparable _ _ _ (sym c.in_ok-check.was ∙ c.check.ensures) (sym c.in_ok-check-2.was ∙ c.check-2.ensures)
    (sym c.comparable.ensures.value ∙ c.if-not-comparable.true)

pub returns : goal.returns
returns c =
    compared _ _ _ (sym c.in_ok-check.was ∙ c.check.ensures) (sym c.in_ok-check-2.was ∙ c.check-2.ensures)
    (sym c.comparable.ensures.value ∙ c.if-not-comparable.false)
    (λ i. record { before = c.least_cost.ensures.value i; after = c.least_cost-2.ensures.value i })
