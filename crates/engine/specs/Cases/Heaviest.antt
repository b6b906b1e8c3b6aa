-- The bound of document 02's F-4 is reached: 16 actions of weight 65,535, all of which are needed.
use Rattle.std.specs.Prelude.{true, ◌≡◌, refl}
use Rattle.std.proofs.Common.{lit<}
use Rattle.base.specs.Every.{every_below}
use Rattle.mask.specs.Laws.{disjoint_iff}
use Rattle.policy.specs.Questions.{first_no, questions, query_in_range, in_range, others_in_range, counts_in_range, level_in_range, action_in_range}
use Rattle.policy.specs.Questions.{rule_in_range, list_in_range, lists_rise, rule_rises, rises, levels_fit, rule_levels_fit, levels_below}
use Rattle.policy.specs.Questions.{weights_fit, outweighs, heavier, Accepted}
use Rattle.policy.specs.Cases.{heaviest, ask}
use Rattle.model.specs.World.{world_of, world_in, followed, alsoes}
use Rattle.model.specs.Fire.{fired_of, can_fire, fires, tried, pass, passes, up_to}
use Rattle.weight.specs.Cost.{cost_of, weighed}
use Rattle.engine.specs.Sets.{Enough}
use Rattle.engine.specs.Calls.{clears, enough, fired_for}
use Rattle.engine.specs.Cases.Decided.{is_enough}

accepted : Accepted heaviest (ask 0 0)
unfolding heaviest every_below first_no questions query_in_range in_range others_in_range counts_in_range level_in_range action_in_range
    rule_in_range list_in_range lists_rise rule_rises rises levels_fit rule_levels_fit levels_below weights_fit outweighs heavier Accepted
accepted = refl

tested : enough heaviest (ask 0 0) 65535 ≡ true
unfolding heaviest world_of world_in followed alsoes fired_of can_fire fires tried pass passes up_to clears enough fired_for
tested = refl

pub record MarkedHeaviest : Type 0 where
  pub accepted : Accepted heaviest (ask 0 0)
  -- the set of all 16 is enough, and costs the most that a set can
  pub enough : Enough heaviest (ask 0 0) 65535
  pub cost : cost_of heaviest 65535 ≡ 1048560

pub marked_heaviest : MarkedHeaviest
unfolding heaviest cost_of weighed
marked_heaviest = record {
  accepted = accepted;
  enough = is_enough accepted 65535 (record { set = lit< tt; apart = (disjoint_iff 65535 0).0 tt }) tested;
  cost = refl;
}
