-- `words` is refused, or works the model.
use Rattle.std.proofs.Common.{sym, ◌∙◌}
use Rattle.policy.specs.Laws.Refusals.{outcome_ok}
use Rattle.engine.specs.Laws.Words.{word_accepted}
use Rattle.engine.proofs.Answers.{words_refused, words_answered}
use Rattle.engine.proofs.words.Goals as goal

pub returns-in-Err : goal.returns-in-Err
returns-in-Err c = words_refused _ _ _ (sym c.in-Err.is ∙ c.of_word.ensures) c.from.ensures

pub new-requires : goal.new-requires
new-requires c = (word_accepted _ _ _ (outcome_ok _ (sym c.in-Ok.is ∙ c.of_word.ensures))).0

pub invariant_of-model : goal.invariant_of-model
invariant_of-model c = record { within = (word_accepted _ _ _ (outcome_ok _ (sym c.in-Ok.is ∙ c.of_word.ensures))).1 }

pub returns-in-Ok : goal.returns-in-Ok
returns-in-Ok c = words_answered _ _ _ (outcome_ok _ (sym c.in-Ok.is ∙ c.of_word.ensures))
    (rw (c.new.ensures.same_policy, c.new.ensures.same_query) at c.model.ensures)
