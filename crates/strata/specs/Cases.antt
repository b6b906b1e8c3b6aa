-- The levels of document 01's run, computed from the definitions: those that its file has are the lowest.
use Rattle.std.specs.Prelude.{[], ◌∷◌, ◌≡◌, refl, replicate}
use Rattle.policy.specs.Questions.{first_no, others_in_range, counts_in_range, level_in_range, action_in_range, rule_in_range, list_in_range}
use Rattle.policy.specs.Questions.{lists_rise, rule_rises, rises, levels_fit, rule_levels_fit, levels_below, refused_or}
use Rattle.policy.specs.declared.Policy.{Policy}
use Rattle.policy.specs.Record.{no_decisions}
use Rattle.policy.specs.Cases.{sample}
use Rattle.strata.specs.Levels.{above, asked, raised, rounds, lowest, level_questions, refused_levels, found_levels}

pub found : found_levels sample ≡ record { refusal = 0; level = 1 ∷ replicate 127 0 }
unfolding sample first_no others_in_range counts_in_range level_in_range action_in_range rule_in_range list_in_range lists_rise rule_rises rises
    levels_fit rule_levels_fit levels_below refused_or above asked raised rounds lowest level_questions found_levels
found = refl

-- a policy of one decision, and a rule that gives it unless it holds
pub circle : Policy
circle = record {
  decisions = 1;
  actions = 0;
  rules = 1;
  level = [];
  action = [];
  rule = record { head = 0; needs = 0; ifs = no_decisions; unless = record { count = 1; at = 0 ∷ [] } } ∷ [];
}

-- no levels fit it
pub circle_refused : found_levels circle ≡ refused_levels 9
unfolding circle first_no others_in_range counts_in_range level_in_range action_in_range rule_in_range list_in_range lists_rise rule_rises rises
    levels_fit rule_levels_fit levels_below refused_or above asked raised rounds lowest level_questions found_levels
circle_refused = refl
