-- Document 01's policy with a weight changed, computed from the definitions.
use Rattle.std.specs.Prelude.{ℕ, ◌≡◌, refl, set, Option, Some, None, Ok, Err}
use Rattle.base.specs.Every.{every_below, some_below}
use Rattle.mask.specs.Family.{among, minimal, lightest, lighter}
use Rattle.policy.specs.declared.Policy.{Policy}
use Rattle.policy.specs.declared.Query.{Query}
use Rattle.policy.specs.declared.Kind.TheVariants.{Obligation}
use Rattle.policy.specs.Record.{with_entries}
use Rattle.policy.specs.Questions.{first_no, questions, query_in_range, in_range, others_in_range, counts_in_range, level_in_range, action_in_range}
use Rattle.policy.specs.Questions.{rule_in_range, list_in_range, lists_rise, rule_rises, rises, levels_fit, rule_levels_fit, levels_below}
use Rattle.policy.specs.Questions.{weights_fit, outweighs, heavier}
use Rattle.policy.specs.Cases.{sample, ask}
use Rattle.policy.specs.Refusal.{refusal_of}
use Rattle.model.specs.World.{world_of, world_in, followed, alsoes}
use Rattle.model.specs.Fire.{fired_of, can_fire, fires, tried, pass, passes, up_to}
use Rattle.weight.specs.Cost.{cost_of, weighed}
use Rattle.policy.specs.declared.refusal.Refusal.TheVariants.{OutOfRange, WeightsUnfit}
use Rattle.engine.specs.Calls.{Answer, choose_of, answer, refused_or, best, clears, enough, fired_for, slim_sets, slim}
use Rattle.alike.specs.Comparable.{reweighed, same_but_weight, same_counts, same_actions, comparable}
use Rattle.repricing.specs.Reprices.{raised}
use Rattle.repricing.specs.Call.{Price, Repriced, price_in, price_of, reprice_of}

-- the best set that Choose names
unfoldable pub best_in : Answer → Option ℕ
best_in (Err e) = None
best_in (Ok None) = None
best_in (Ok (Some c)) = Some c.mask

abbrev best_of : Policy → Query → Option ℕ
best_of p q = best_in (choose_of p q)

abbrev costs : Price → Price → Repriced
costs before after = Ok (Some (record { before = before; after = after }))

-- the sample with another kind for action 1
abbrev other_kind : Policy
other_kind = with_entries sample sample.level (set sample.action 1 (record { kind = Obligation; weight = 2; also = 0 })) sample.rule

-- policies that are refused: action 3 does action 0 too and must weigh more, and 70,000 is no weight
abbrev light : Policy
light = raised sample 0 4

abbrev heavy : Policy
heavy = reweighed sample 1 70000

pub record Run : Type 0 where
  -- action 2, the best set, is raised from 4 by 3: action 0 at 5 is then the best
  pub rises : reprice_of sample (raised sample 2 3) (ask 0 0) ≡ costs (Some 4) (Some 5)
  pub best_before : best_of sample (ask 0 0) ≡ Some 4
  pub best_after : best_of (raised sample 2 3) (ask 0 0) ≡ Some 1
  -- and the other way round
  pub falls : reprice_of (raised sample 2 3) sample (ask 0 0) ≡ costs (Some 5) (Some 4)
  -- action 1 is raised by 3: the cost rises by 0 where it is not in the best set, and by 3 where it is
  pub stays : reprice_of sample (raised sample 1 3) (ask 0 0) ≡ costs (Some 4) (Some 4)
  pub rises_most : reprice_of sample (raised sample 1 3) (ask 2 0) ≡ costs (Some 2) (Some 5)
  -- none stays none
  pub none : reprice_of sample (raised sample 2 3) (ask 0 2) ≡ costs None None
  -- the policies are equal
  pub equal : reprice_of sample sample (ask 0 0) ≡ costs (Some 4) (Some 4)
  -- two weights are changed, or a kind
  pub two : reprice_of sample (raised (raised sample 2 3) 1 1) (ask 0 0) ≡ Ok None
  pub kind : reprice_of sample other_kind (ask 0 0) ≡ Ok None
  -- one weight is changed below the count, and one past it
  pub past : reprice_of sample (reweighed (raised sample 2 3) 4 7) (ask 0 0) ≡ costs (Some 4) (Some 5)
  -- the second is refused, the first, or both: the first's number is given
  pub refused : reprice_of sample light (ask 0 0) ≡ Err WeightsUnfit
  pub refused_before : reprice_of light sample (ask 0 0) ≡ Err WeightsUnfit
  pub light_heavy : reprice_of light heavy (ask 0 0) ≡ Err WeightsUnfit
  pub heavy_light : reprice_of heavy light (ask 0 0) ≡ Err OutOfRange

pub run : Run
unfolding sample every_below some_below first_no questions query_in_range in_range others_in_range counts_in_range level_in_range action_in_range
    rule_in_range list_in_range lists_rise rule_rises rises levels_fit rule_levels_fit levels_below weights_fit outweighs heavier
    world_of world_in followed alsoes fired_of can_fire fires
    tried pass passes up_to cost_of weighed among minimal lightest lighter choose_of answer refused_or best clears
    enough fired_for slim_sets slim same_but_weight same_counts same_actions comparable
    price_in price_of reprice_of refusal_of best_in
run = record {
  rises = refl;
  best_before = refl;
  best_after = refl;
  falls = refl;
  stays = refl;
  rises_most = refl;
  none = refl;
  equal = refl;
  two = refl;
  kind = refl;
  past = refl;
  refused = refl;
  refused_before = refl;
  light_heavy = refl;
  heavy_light = refl;
}
