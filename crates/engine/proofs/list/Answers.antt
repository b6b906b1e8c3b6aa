-- `list` is refused, or writes the sets that the survey marked as slim.
use Rattle.std.proofs.Common.{rules, ◌≡◌, ◌≤◌, sym, ◌∙◌, ap, arith, length, Err}
use Rattle.policy.specs.Questions.{Accepted}
use Rattle.policy.specs.Laws.{accepted_range}
use Rattle.policy.specs.Refusal.{outcome, refusal_of}
use Rattle.policy.specs.Laws.Refusals.{outcome_refused}
use Rattle.survey.specs.Survey.{slims}
use Rattle.engine.specs.Calls.{Listing, slim_sets}
use Rattle.engine.specs.Laws.Refusals.{list_early, list_no, list_yes}
use Rattle.engine.proofs.Answers.{accepted, list_refused, list_listed}
use Rattle.engine.proofs.Listing.{Listing as Survey, surveyed, slims_counted, words_within, words_long, words_mark}
use Rattle.engine.proofs.list.Goals.{After-survey, After-map_or-count}
use Rattle.engine.proofs.list.Goals as goal

pub returns-in_err-of_query : goal.returns-in_err-of_query
unfolding Accepted
returns-in_err-of_query c =
    let is : ◌≡◌ {A = Listing} c.from_residual.result (Err c.in_err-of_query.field-0.0) = search rules in
    let others = sym c.in_err-of_query.was ∙ c.of_query.ensures in
    rw is (list_refused _ _ _ (others ∙ ap outcome (sym (list_early _ _ _ (outcome_refused _ others)))))

pub new-requires : goal.new-requires
new-requires c = accepted _ _ (sym c.in_ok-of_query.was ∙ c.of_query.ensures)

-- what was found, and the words
so : (c : After-survey) → Survey c.args.policy c.args.query c.survey.result c.survey.new.slim
so c = surveyed c.new.ensures c.new-words.ensures c.survey.ensures.so_far c.survey.ensures.table

-- what is counted
counted : (c : After-map_or-count) → c.map_or-count.result ≡ slims c.survey.result
counted c = search rules

pub returns-then-places-count : goal.returns-then-places-count
unfolding outcome refusal_of
returns-then-places-count c =
    let at = goal.at.returns-then-places-count c in
    let found = so at.After-survey in
    list_refused _ _ _
    (ap outcome (sym (list_no _ _ _ found.ok (omega (arith, counted at.After-map_or-count, slims_counted found)))))

pub words_of-requires : goal.words_of-requires
words_of-requires c = (accepted_range _ _ (so (goal.at.words_of-requires c).After-survey).ok).actions

pub slice_bounds-slim-end : goal.slice_bounds-slim-end
slice_bounds-slim-end c =
    let found = so (goal.at.slice_bounds-slim-end c).After-survey in
    omega (arith, found.marks.size, words_within found c.words_of.ensures)

pub slice_bounds-write-end : goal.slice_bounds-write-end
slice_bounds-write-end c = sym (words_long (so (goal.at.slice_bounds-write-end c).After-survey) c.words_of.ensures)

pub write-requires : goal.write-requires
write-requires c =
    let at = goal.at.write-requires c in
    let found = so at.After-survey in
    record {
      words_bound = omega (arith, words_long found c.words_of.ensures, words_within found c.words_of.ensures);
      words_in_bounds = rw (words_mark found c.words_of.ensures)
          (omega (arith, counted at.After-map_or-count, slims_counted found, c.if-places-count.false));
    }

pub returns : goal.returns
returns c =
    let at = goal.at.returns c in
    let found = so at.After-survey in
    let count = counted at.After-map_or-count ∙ slims_counted found in
    let room : length (slim_sets c.args.policy c.args.query) ≤ length c.args.places.now = omega (arith, count, c.if-places-count.false) in
    rw (count, c.write.ensures, words_mark found c.words_of.ensures) (list_listed _ _ _ (list_yes _ _ _ found.ok room))
