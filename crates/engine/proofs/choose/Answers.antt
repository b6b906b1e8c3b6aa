-- `choose` is refused, or answers what the survey found, and what to keep off beside it.
use Rattle.std.proofs.Common.{rules, ◌≡◌, sym, ◌∙◌, Err}
use Rattle.policy.specs.Questions.{Accepted}
use Rattle.policy.specs.Laws.Refusals.{outcome_refuses}
use Rattle.engine.specs.Calls.{Answer, choose_of}
use Rattle.engine.specs.Laws.Decide.{best_found}
use Rattle.engine.specs.Laws.Refusals.{answered}
use Rattle.engine.proofs.Answers.{accepted, chosen, sofar_none, sofar_chosen, sofar_best}
use Rattle.engine.proofs.Listing.{Listing, surveyed}
use Rattle.engine.proofs.choose.Goals.{After-survey}
use Rattle.engine.proofs.choose.Goals as goal

pub returns-in_err-of_query : goal.returns-in_err-of_query
unfolding choose_of
returns-in_err-of_query c =
    let is : ◌≡◌ {A = Answer} c.from_residual.result (Err c.in_err-of_query.field-0.0) = search rules in
    chosen _ _ (is ∙ outcome_refuses _ _ (sym c.in_err-of_query.was ∙ c.of_query.ensures))

pub new-requires : goal.new-requires
new-requires c = accepted _ _ (sym c.in_ok-of_query.was ∙ c.of_query.ensures)

-- what was found
so : (c : After-survey) → Listing c.args.policy c.args.query c.survey.result c.survey.new.slim
so c = surveyed c.new.ensures c.new-words.ensures c.survey.ensures.so_far c.survey.ensures.table

pub returns-in_default : goal.returns-in_default
unfolding choose_of Accepted
returns-in_default c =
    let found = so (goal.at.returns-in_default c).After-survey in
    chosen _ _ (sofar_none _ _ (rw c.in_default.is at found.sofar) ∙ sym (answered _ _ _ found.ok))

-- the set found is the best, and so it is enough
pub beside-requires : goal.beside-requires
beside-requires c =
    let found = so (goal.at.beside-requires c).After-survey in
    rw (c.survey.ensures.same_plan, c.new-words.ensures, c.new.ensures.same_policy, c.new.ensures.same_query)
    (best_found _ _ found.ok _ (sofar_best c.args.policy c.args.query (rw c.in-Some.is at found.sofar))).enough

pub returns : goal.returns
unfolding choose_of Accepted
returns c =
    let found = so (goal.at.returns c).After-survey in
    let kept = rw (c.survey.ensures.same_plan, c.new-words.ensures, c.new.ensures.same_policy, c.new.ensures.same_query)
    at c.beside.ensures in
    chosen _ _ (sofar_chosen _ _ (rw c.in-Some.is at found.sofar) kept ∙ sym (answered _ _ _ found.ok))
