-- `found` is refused by question 3 or 4, or finds the lowest levels.
use Rattle.std.proofs.Common.{sym, ◌∙◌}
use Rattle.strata.specs.Laws.Levels.{found_three, found_four}
use Rattle.strata.proofs.found.Goals as goal

pub returns-then-not-others_in_range : goal.returns-then-not-others_in_range
returns-then-not-others_in_range c =
    sym (found_three _ (sym c.others_in_range.ensures ∙ c.if-not-others_in_range.true))

pub returns-then-not-lists_rise : goal.returns-then-not-lists_rise
returns-then-not-lists_rise c =
    sym (found_four _ (sym c.others_in_range.ensures ∙ c.if-not-others_in_range.false)
    (sym c.lists_rise.ensures ∙ c.if-not-lists_rise.true))
