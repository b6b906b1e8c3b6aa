-- The words of document 01's run, computed from the definitions.
use Rattle.std.specs.Prelude.{◌∷◌, ◌≡◌, refl, replicate}
use Rattle.base.specs.Every.{every_below, some_below}
use Rattle.base.specs.Lists.{table}
use Rattle.mask.specs.Packed.{packed}
use Rattle.policy.specs.Questions.{first_no, questions, query_in_range, in_range, others_in_range, counts_in_range, level_in_range, action_in_range}
use Rattle.policy.specs.Questions.{rule_in_range, list_in_range, lists_rise, rule_rises, rises, levels_fit, rule_levels_fit, levels_below}
use Rattle.policy.specs.Questions.{weights_fit, outweighs, heavier}
use Rattle.policy.specs.Cases.{sample, ask}
use Rattle.model.specs.World.{world_of, world_in, followed, alsoes}
use Rattle.model.specs.Fire.{fired_of, can_fire, fires, tried, pass, passes, up_to}
use Rattle.words.specs.Models.{bit_of, word_of, model_of}
use Rattle.engine.specs.Calls.{refused_or, clears, enough, fired_for}
use Rattle.engine.specs.Words.{word_questions, words_of}

-- with nothing done the sets that clear decision 0 are 1, 4, 5, 8, 9, 12 and 13; those that have action 1 clear decision 2
pub record WordsOfRun : Type 0 where
  pub first : words_of sample (ask 0 0) 0 ≡ record { refusal = 0; word = 13106 ∷ 65530 ∷ 52428 ∷ replicate 125 0 }
  -- with action 3 done only masks without it have bits
  pub third : words_of sample (ask 0 8) 0 ≡ record { refusal = 0; word = 51 ∷ 255 ∷ 204 ∷ replicate 125 0 }
  -- 16 sets fill no second word, and w ends at 1,023
  pub second_word : words_of sample (ask 0 0) 1 ≡ record { refusal = 0; word = replicate 128 0 }
  pub late : words_of sample (ask 0 0) 1024 ≡ record { refusal = 3; word = replicate 128 0 }

pub words_of_run : WordsOfRun
unfolding sample every_below some_below packed table first_no questions query_in_range in_range others_in_range counts_in_range level_in_range
    action_in_range rule_in_range list_in_range lists_rise rule_rises rises levels_fit rule_levels_fit levels_below weights_fit outweighs heavier
    world_of world_in followed alsoes fired_of can_fire fires tried pass passes up_to bit_of word_of model_of refused_or clears enough fired_for
    word_questions words_of
words_of_run = record { first = refl; third = refl; second_word = refl; late = refl }
