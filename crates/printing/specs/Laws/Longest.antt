-- The record that `longest` writes is accepted, so its file is short and is read back as the same record.
use Rattle.std.specs.Prelude.{ℕ, ◌≤◌, ◌<◌, Bool, true, ◌&&◌, ◌≡◌, refl, T, eqb, length, take}
use Rattle.std.proofs.Common.{◌∙◌, arith, eqb→eq}
use Rattle.std.specs.List.{list_all}
use Rattle.base.specs.Laws.Tests.{and_make, and_left, and_right, entry_at}
use Rattle.base.specs.Lists.{filled}
use Rattle.policy.specs.declared.Rule.{Rule}
use Rattle.policy.specs.Questions.{query_in_range, queries_in_range, record_questions}
use Rattle.policy.specs.Laws.{Answers, first_no_zero, answered_with, accepted as query_accepted}
use Rattle.policy.specs.Record.{no_rule, rule_of, Eights, Sized}
use Rattle.engine.specs.Meaning.{AllYes}
use Rattle.format.specs.Bounds.{longest_file}
use Rattle.format.specs.Laws.Cleared.{cleared, cleared_rule}
use Rattle.format.specs.Entries.{zero_rule, record_of}
use Rattle.format.specs.Format.{decisions_of}
use Rattle.reader.specs.Laws.Cleared.{cleared_reading}
use Rattle.reader.specs.File.{reading_of, read_of}
use Rattle.threshold.specs.AtLeast.{decisions_to, number, without, fewer, having, first_for, rules_for, row, rows, plain, at_least, eight}
use Rattle.threshold.specs.AtLeast.{stated}
use Rattle.threshold.specs.Laws.Taken.{accepted}
use Rattle.writer.specs.Claim.{AcceptedRecord}
use Rattle.writer.specs.Laws.Saved.{short, reads_written}
use Rattle.text.specs.Handing.{text_at}
use Rattle.printing.specs.Texts.{longest_text, longest_texts}
use Rattle.text.specs.Laws.Handed.{only_fits}

-- ---- the arrays are as long as their structs declare
eights : Rule → Bool
eights r = eqb (length r.ifs.at) 8 && eqb (length r.unless.at) 8

all_eights : T (list_all eights (take at_least.rules at_least.rule))
unfolding eights at_least record_of decisions_of filled decisions_to number without fewer having first_for rules_for row rows
all_eights = tt

rules_long : length at_least.rule ≡ 256
unfolding at_least record_of filled first_for rules_for row rows
rules_long = refl

lists_long : (k : ℕ) → k < at_least.rules → Eights (rule_of at_least k)
unfolding eights at_least record_of first_for rules_for row rows
lists_long k h =
    let one = entry_at eights no_rule at_least.rules at_least.rule all_eights k h (omega (arith, rules_long)) in
    let r = rule_of at_least k in
    let ifs = eqb (length r.ifs.at) 8 in
    let unless = eqb (length r.unless.at) 8 in
    (eqb→eq (length r.ifs.at) 8 (and_left ifs unless one), eqb→eq (length r.unless.at) 8 (and_right ifs unless one))

sized : Sized at_least
unfolding at_least record_of filled
sized = record { levels = refl; actions = refl; rules = rules_long; lists = lists_long }

-- ---- questions 3 to 6 are answered yes
given : Answers at_least (query_in_range at_least eight) → T (queries_in_range at_least stated.queries)
unfolding queries_in_range stated reading_of filled
given known = and_make (query_in_range at_least eight) true known.given tt

answers : AllYes (record_questions at_least stated.queries)
answers =
    let known = query_accepted at_least eight accepted in
    first_no_zero (record_questions at_least stated.queries)
    (answered_with known (queries_in_range at_least stated.queries) (given known))

record_accepted : AcceptedRecord at_least stated.queries
unfolding stated reading_of filled
record_accepted = record { policy = sized; queries = refl; answers = answers }

-- so its file has at most 27,294 bytes
pub longest_fits : (i : ℕ) → length (text_at longest_texts i) ≤ longest_file
unfolding longest_text
longest_fits i = only_fits longest_file longest_text i (short at_least stated.queries record_accepted)

-- zeros stand past each count
clear : cleared_reading at_least stated.queries.count stated.queries.at ≡ stated
unfolding stated at_least eight decisions_to number without fewer having first_for rules_for row rows plain
    cleared cleared_rule cleared_reading zero_rule record_of reading_of decisions_of filled
clear = refl

-- and the file is read so
pub reads : read_of longest_text ≡ stated
unfolding longest_text
reads = reads_written at_least stated.queries record_accepted ∙ clear
