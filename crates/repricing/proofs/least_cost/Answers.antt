-- `least_cost` meets its contract: in each case of what Choose answers it gives the cost in it.
use Rattle.std.proofs.Common.{sym, ap, ◌∙◌, Ok}
use Rattle.repricing.specs.Call.{price_in}
use Rattle.repricing.proofs.Answers.{priced}
use Rattle.repricing.proofs.least_cost.Goals as goal

pub returns-in-Err : goal.returns-in-Err
unfolding price_in
returns-in-Err c = priced _ _ (sym c.in-Err.is ∙ c.choose.ensures.value)

pub returns-in-Ok-None : goal.returns-in-Ok-None
unfolding price_in
returns-in-Ok-None c = priced _ _ (sym (c.in-Ok-None.is ∙ ap Ok c.in-Ok-None.field-0-is) ∙ c.choose.ensures.value)

pub returns-in-Ok-Some : goal.returns-in-Ok-Some
unfolding price_in
returns-in-Ok-Some c = priced _ _ (sym (c.in-Ok-Some.is ∙ ap Ok c.in-Ok-Some.field-0-is) ∙ c.choose.ensures.value)
