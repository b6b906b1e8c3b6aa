-- Document 02's marked chain of three actions: the first alone clears what needs only the third.
use Rattle.std.specs.Prelude.{true, [], ◌∷◌, ◌≡◌, refl}
use Rattle.std.proofs.Common.{inr, lit<}
use Rattle.std.proofs.Math.Option.{some}
use Rattle.base.specs.Every.{every_below, some_below}
use Rattle.mask.specs.Laws.{disjoint_iff}
use Rattle.mask.specs.Family.{minimal, lightest, lighter}
use Rattle.policy.specs.Questions.{first_no, questions, query_in_range, in_range, others_in_range, counts_in_range, level_in_range, action_in_range}
use Rattle.policy.specs.Questions.{rule_in_range, list_in_range, lists_rise, rule_rises, rises, levels_fit, rule_levels_fit, levels_below}
use Rattle.policy.specs.Questions.{weights_fit, outweighs, heavier, Accepted}
use Rattle.policy.specs.Cases.{chain, ask}
use Rattle.model.specs.World.{world_of, world_in, followed, alsoes, InWorld, start, follow}
use Rattle.model.specs.Laws.Chains.{steps}
use Rattle.model.specs.Fire.{fired_of, can_fire, fires, tried, pass, passes, up_to}
use Rattle.weight.specs.Cost.{cost_of, weighed}
use Rattle.engine.specs.Sets.{Enough, Slim, Best}
use Rattle.engine.specs.Calls.{best, clears, enough, fired_for, slim}
use Rattle.engine.specs.Laws.Decide.{best_found}
use Rattle.engine.specs.Cases.Decided.{is_enough, is_slim}

-- what the tests say
record Tested : Type 0 where
  accepted : Accepted chain (ask 0 0)
  first : slim chain (ask 0 0) 1 ≡ true
  second : slim chain (ask 0 0) 2 ≡ true
  third : slim chain (ask 0 0) 4 ≡ true
  best : best chain (ask 0 0) ≡ some 4
  done_accepted : Accepted chain (ask 0 1)
  done : enough chain (ask 0 1) 0 ≡ true

tested : Tested
unfolding chain every_below some_below first_no questions query_in_range in_range others_in_range counts_in_range level_in_range action_in_range
    rule_in_range list_in_range lists_rise rule_rises rises levels_fit rule_levels_fit levels_below weights_fit outweighs heavier Accepted
    world_of world_in followed alsoes fired_of can_fire fires tried pass passes up_to cost_of weighed minimal lightest lighter
    best clears enough fired_for slim
tested = record {
  accepted = refl;
  first = refl;
  second = refl;
  third = refl;
  best = refl;
  done_accepted = refl;
  done = refl;
}

pub record MarkedChain : Type 0 where
  -- from the first action the third is reached in two steps
  pub reached : (r : InWorld chain 0 1 2) × (steps r ≡ 2)
  -- one step leaves it out; the world holds all three
  pub one_step : followed chain.action 3 1 1 ≡ 3
  pub world : world_of chain 0 1 ≡ 7
  -- so the first alone is enough, though the rule that fires needs only the third
  pub first : Slim chain (ask 0 0) 1
  pub fired : fired_for chain (ask 0 0) 1 ≡ 0 ∷ []
  -- and so is each of the others; the third, which does nothing more, is the best
  pub second : Slim chain (ask 0 0) 2
  pub third : Slim chain (ask 0 0) 4
  pub best : Best chain (ask 0 0) 4 × (cost_of chain 4 ≡ 1)
  -- where the first is done, nothing is left to do
  pub done : Enough chain (ask 0 1) 0

pub marked_chain : MarkedChain
unfolding chain world_of world_in followed alsoes fired_of can_fire fires tried pass passes up_to cost_of weighed fired_for steps
marked_chain = record {
  reached = (follow {a = 1} (follow {a = 0} (start (inr tt)) (lit< tt) tt) (lit< tt) tt, refl);
  one_step = refl;
  world = refl;
  first = is_slim tested.accepted 1 (lit< tt) tested.first;
  fired = refl;
  second = is_slim tested.accepted 2 (lit< tt) tested.second;
  third = is_slim tested.accepted 4 (lit< tt) tested.third;
  best = (best_found chain (ask 0 0) tested.accepted 4 tested.best, refl);
  done = is_enough tested.done_accepted 0 (record { set = lit< tt; apart = (disjoint_iff 0 1).0 tt }) tested.done;
}
