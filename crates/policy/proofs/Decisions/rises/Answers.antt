-- `Decisions::rises` meets its contract.
use Rattle.std.proofs.Common.{rules, ltb, ap, ◌∙◌}
use Rattle.std.proofs.lemmas.Fn.{always_returns_same}
use Rattle.policy.specs.Questions.{rises}
use Rattle.policy.proofs.Rising.{rises_by_neighbours}
use Rattle.policy.proofs.Decisions.rises.Goals as goal

pub returns : goal.returns
returns c =
    rises_by_neighbours c.listed.result.now _
    (c.is_sorted_by.ensures.cases ltb (always_returns_same _ _ _ (λ a r f' k. (search rules, search rules))))
    ∙ ap rises c.listed.ensures
