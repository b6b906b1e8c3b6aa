-- Document 01's file, written by computation: it has 316 bytes.
use Rattle.std.specs.Prelude.{ℕ, [], ◌∷◌, ◌++◌, ◌≡◌, refl, replicate, Ok}
use Rattle.base.specs.Every.{every_below}
use Rattle.policy.specs.Cases.{sample, ask}
use Rattle.policy.specs.Questions.{first_no, questions, in_range, others_in_range, counts_in_range, level_in_range, action_in_range, rule_in_range}
use Rattle.policy.specs.Questions.{list_in_range, lists_rise, rule_rises, rises, levels_fit, rule_levels_fit, levels_below, weights_fit, outweighs}
use Rattle.policy.specs.Questions.{heavier, query_in_range, queries_in_range}
use Rattle.policy.specs.declared.Queries.{Queries}
use Rattle.engine.specs.Calls.{refused_or}
use Rattle.format.specs.Text.{decimal, decimal_by}
use Rattle.format.specs.Written.{line_of, joined, commas, letter_of, each, level_text, action_text, rule_text, query_text, entries_text, file_of}
use Rattle.reader.specs.Cases.{text}
use Rattle.policy.specs.Refusal.{refuse}
use Rattle.writer.specs.Writing.{write_questions, write_of, write_after}

-- the queries of the run, under any count
asked : ℕ → Queries
asked count = record {
  count = count;
  at = ask 0 0 ∷ ask 0 2 ∷ ask 0 8 ∷ [];
}

-- the file in a buffer that has a byte more, a buffer that is too short by one, and more queries than there may be
cases : (write_after sample (asked 3) (replicate 317 42) ≡ text ++ (42 ∷ []))
    × (write_of sample (asked 3) 316 ≡ Ok 316)
    × (write_of sample (asked 3) 315 ≡ refuse 10)
    × (write_of sample (asked 65) 316 ≡ refuse 3)
unfolding sample text asked every_below first_no questions in_range others_in_range counts_in_range level_in_range action_in_range
    rule_in_range list_in_range lists_rise rule_rises rises levels_fit rule_levels_fit levels_below weights_fit outweighs heavier query_in_range
    refused_or decimal decimal_by line_of joined commas letter_of each level_text action_text rule_text query_text entries_text file_of
    queries_in_range write_questions write_of write_after
cases = (refl, refl, refl, refl)
