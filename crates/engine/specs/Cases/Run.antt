-- Document 01's run, computed from the definitions.
use Rattle.std.specs.Prelude.{true, false, [], ◌∷◌, ◌≡◌, refl, Some, None, Ok}
use Rattle.std.proofs.Math.Option.{none, some}
use Rattle.std.specs.Int.Count.{ones, ones_in}
use Rattle.base.specs.Every.{every_below, some_below}
use Rattle.mask.specs.Family.{among, minimal, lightest, lighter}
use Rattle.policy.specs.Questions.{first_no, questions, query_in_range, in_range, others_in_range, counts_in_range, level_in_range, action_in_range}
use Rattle.policy.specs.Questions.{rule_in_range, list_in_range, lists_rise, rule_rises, rises, levels_fit, rule_levels_fit, levels_below}
use Rattle.policy.specs.Questions.{weights_fit, outweighs, heavier, Accepted}
use Rattle.policy.specs.Cases.{sample, ask}
use Rattle.model.specs.World.{world_of, world_in, followed, alsoes}
use Rattle.model.specs.Fire.{fired_of, can_fire, fires, tried, pass, passes, up_to}
use Rattle.weight.specs.Cost.{cost_of, weighed}
use Rattle.keep.specs.Keep.{found_or0, spoilt, keeps_off, keep_of}
use Rattle.engine.specs.Calls.{choose_of, answer, refused_or, best, clears, enough, fired_for, slim_sets, slim, keep_for}

-- what the printed run says
pub record Run : Type 0 where
  pub first : choose_of sample (ask 0 0) ≡ Ok (Some (record { mask = 4; keep = 2; cost = 4; slim = 3 }))
  pub first_list : slim_sets sample (ask 0 0) ≡ 1 ∷ 4 ∷ 8 ∷ []
  pub first_fired : fired_for sample (ask 0 0) 4 ≡ 1 ∷ 3 ∷ []
  pub second : choose_of sample (ask 0 2) ≡ Ok None
  pub third : choose_of sample (ask 0 8) ≡ Ok (Some (record { mask = 0; keep = 2; cost = 0; slim = 1 }))
  pub third_list : slim_sets sample (ask 0 8) ≡ 0 ∷ []
  pub third_fired : fired_for sample (ask 0 8) 0 ≡ 0 ∷ 3 ∷ []

pub run : Run
unfolding sample every_below some_below first_no questions query_in_range in_range others_in_range counts_in_range level_in_range action_in_range
    rule_in_range list_in_range lists_rise rule_rises rises levels_fit rule_levels_fit levels_below weights_fit outweighs heavier
    world_of world_in followed alsoes fired_of can_fire fires
    tried pass passes up_to cost_of weighed among minimal lightest lighter choose_of answer refused_or best clears
    enough fired_for slim_sets slim ones ones_in found_or0 spoilt keeps_off keep_of keep_for
run = record {
  first = refl;
  first_list = refl;
  first_fired = refl;
  second = refl;
  third = refl;
  third_list = refl;
  third_fired = refl;
}

-- what the tests say in the marked cases
pub record Tested : Type 0 where
  pub accepted : Accepted sample (ask 0 0)
  pub a : world_of sample 0 8 ≡ 9
  pub b : enough sample (ask 0 0) 0 ≡ false
  pub c : slim sample (ask 0 0) 1 ≡ true
  pub d : slim sample (ask 0 0) 4 ≡ true
  pub e : slim sample (ask 0 0) 8 ≡ true
  pub f : enough sample (ask 0 0) 5 ≡ true
  pub f_slim : slim sample (ask 0 0) 5 ≡ false
  pub g : enough sample (ask 0 0) 2 ≡ false
  pub h : enough sample (ask 0 0) 6 ≡ false
  pub i_accepted : Accepted sample (ask 0 2)
  pub i : best sample (ask 0 2) ≡ none
  pub j_accepted : Accepted sample (ask 0 8)
  pub j : enough sample (ask 0 8) 0 ≡ true
  pub k_accepted : Accepted sample (ask 2 0)
  pub k : best sample (ask 2 0) ≡ some 2
  pub k_cost : cost_of sample 2 ≡ 2

pub tested : Tested
unfolding sample every_below some_below first_no questions query_in_range in_range others_in_range counts_in_range level_in_range action_in_range
    rule_in_range list_in_range lists_rise rule_rises rises levels_fit rule_levels_fit levels_below weights_fit outweighs heavier Accepted
    world_of world_in followed alsoes fired_of
    can_fire fires tried pass passes up_to cost_of weighed minimal lightest lighter best clears enough fired_for slim
tested = record {
  accepted = refl;
  a = refl;
  b = refl;
  c = refl;
  d = refl;
  e = refl;
  f = refl;
  f_slim = refl;
  g = refl;
  h = refl;
  i_accepted = refl;
  i = refl;
  j_accepted = refl;
  j = refl;
  k_accepted = refl;
  k = refl;
  k_cost = refl;
}
