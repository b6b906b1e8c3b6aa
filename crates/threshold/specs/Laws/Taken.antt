-- The policy has document 02's counts, and is accepted with its query: by computation.
use Rattle.std.specs.Prelude.{◌≡◌, refl, length}
use Rattle.base.specs.Every.{every_below}
use Rattle.base.specs.Lists.{filled}
use Rattle.policy.specs.Questions.{first_no, questions, query_in_range, in_range, others_in_range, counts_in_range, level_in_range, action_in_range}
use Rattle.policy.specs.Questions.{rule_in_range, list_in_range, lists_rise, rule_rises, rises, levels_fit, rule_levels_fit, levels_below}
use Rattle.policy.specs.Questions.{weights_fit, outweighs, heavier, Accepted}
use Rattle.format.specs.Entries.{record_of, zero_rule}
use Rattle.format.specs.Format.{decisions_of}
use Rattle.threshold.specs.AtLeast.{decisions_to, number, without, fewer, having, first_for, rules_for, row, rows, plain, at_least}
use Rattle.threshold.specs.AtLeast.{eight}

-- so many decisions are there, and 192 rules
pub hundred : decisions_to 16 ≡ 100
unfolding decisions_to
hundred = refl

pub rows_length : length (rows 16) ≡ 192
unfolding rows row first_for rules_for
rows_length = refl

pub decisions_are : at_least.decisions ≡ 100
unfolding at_least record_of
decisions_are = refl

pub rules_are : at_least.rules ≡ 192
unfolding at_least record_of
rules_are = rows_length

pub accepted : Accepted at_least eight
unfolding at_least eight decisions_to number without fewer having first_for rules_for row rows plain record_of zero_rule decisions_of filled
    every_below first_no questions query_in_range in_range others_in_range counts_in_range level_in_range action_in_range
    rule_in_range list_in_range lists_rise rule_rises rises levels_fit rule_levels_fit levels_below weights_fit outweighs heavier Accepted
accepted = refl
