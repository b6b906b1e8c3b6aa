-- Document 01's file and a dearer one, from their bytes to the texts that `reprice` prints.
use Rattle.std.specs.Prelude.{ℕ, List, [], ◌∷◌, ◌++◌, ◌≡◌, refl}
use Rattle.std.proofs.Common.{◌∙◌, ap₂}
use Rattle.base.specs.Every.{every_below, some_below}
use Rattle.base.specs.Lists.{filled}
use Rattle.mask.specs.Family.{among, minimal, lightest, lighter}
use Rattle.policy.specs.declared.Query.{Query}
use Rattle.policy.specs.Questions.{first_no, questions, query_in_range, queries_in_range, in_range, others_in_range, counts_in_range, level_in_range}
use Rattle.policy.specs.Questions.{action_in_range, rule_in_range, list_in_range, lists_rise, rule_rises, rises, levels_fit, rule_levels_fit}
use Rattle.policy.specs.Questions.{levels_below, weights_fit, outweighs, heavier}
use Rattle.policy.specs.Cases.{sample, ask}
use Rattle.model.specs.World.{world_of, world_in, followed, alsoes}
use Rattle.model.specs.Fire.{fired_of, can_fire, fires, tried, pass, passes, up_to}
use Rattle.weight.specs.Cost.{cost_of, weighed}
use Rattle.engine.specs.Calls.{refused_or, check_record_of, choose_of, answer, best, clears, enough, fired_for, slim_sets, slim}
use Rattle.alike.specs.Comparable.{same_but_weight, same_counts, same_actions, comparable}
use Rattle.repricing.specs.Reprices.{raised}
use Rattle.repricing.specs.Call.{price_in, price_of}
use Rattle.format.specs.Text.{ascii, decimal, decimal_by}
use Rattle.format.specs.Written.{line_of}
use Rattle.format.specs.Parser.{onward, ask as asking, exactly, rest_of_line, end, times}
use Rattle.format.specs.Format.{is_digit, is_number, spelt, cut, parts, is_letter, kind_of, is_list, decisions_of, line, number_line, kind_line}
use Rattle.format.specs.Format.{list_line}
use Rattle.format.specs.Entries.{zero_rule, action, rule, query, record_of, entries}
use Rattle.reader.specs.File.{reading_of, refused_reading, lines, draft, file, handed, read_of}
use Rattle.reader.specs.Cases.{text}
use Rattle.text.specs.Put.{refused_text}
use Rattle.pairs.specs.Texts.{price_text, prices_text, refusal_of, pair_texts, reprice_texts}

-- the file with the weight of action 2 raised from 4 to 7
unfoldable pub dearer : List ℕ
dearer =
    ascii "decisions=4\nactions=4\nlevel=1\nlevel=0\nlevel=0\nlevel=0\n"
    ++ ascii "kind=p\nweight=5\nalso=0\nkind=p\nweight=2\nalso=0\nkind=o\nweight=7\nalso=0\nkind=p\nweight=9\nalso=1\nrules=4\n"
    ++ ascii "head=1\nneeds=1\nif=\nunless=\nhead=1\nneeds=4\nif=\nunless=\nhead=2\nneeds=2\nif=\nunless=\n"
    ++ ascii "head=0\nneeds=0\nif=1\nunless=2\nqueries=3\nwant=0\ndone=0\nwant=0\ndone=2\nwant=0\ndone=8\n"

abbrev asked : List Query
asked = ask 0 0 ∷ ask 0 2 ∷ ask 0 8 ∷ []

-- what is read of both
read_text : read_of text ≡ reading_of sample asked
unfolding text sample every_below levels_fit rule_levels_fit levels_below weights_fit outweighs heavier rises
    onward asking exactly rest_of_line end times is_digit is_number spelt cut parts is_letter kind_of line number_line kind_line is_list list_line
    filled decisions_of zero_rule action rule query record_of reading_of refused_reading entries lines draft file handed read_of
read_text = refl

read_dearer : read_of dearer ≡ reading_of (raised sample 2 3) asked
unfolding dearer sample every_below levels_fit rule_levels_fit levels_below weights_fit outweighs heavier rises
    onward asking exactly rest_of_line end times is_digit is_number spelt cut parts is_letter kind_of line number_line kind_line is_list list_line
    filled decisions_of zero_rule action rule query record_of reading_of refused_reading entries lines draft file handed read_of
read_dearer = refl

-- its three texts
pub printed : reprice_texts text dearer ≡
    ascii "want=0\nbefore=4\nafter=5\n" ∷ ascii "want=0\nbefore=none\nafter=none\n" ∷ ascii "want=0\nbefore=0\nafter=0\n" ∷ []
unfolding reprice_texts pair_texts refusal_of reading_of filled sample every_below some_below first_no questions query_in_range
    queries_in_range in_range others_in_range counts_in_range level_in_range action_in_range rule_in_range list_in_range lists_rise rule_rises rises
    levels_fit rule_levels_fit levels_below weights_fit outweighs heavier check_record_of refused_or
    world_of world_in followed alsoes fired_of can_fire fires tried pass passes up_to cost_of weighed among minimal lightest lighter
    choose_of answer best clears enough fired_for slim_sets slim same_but_weight same_counts
    same_actions comparable price_in price_of price_text prices_text line_of decimal decimal_by
printed = ap₂ pair_texts read_text read_dearer ∙ refl

-- a file that is refused gives one line
pub refused : reprice_texts text [] ≡ ascii "refused=2\n" ∷ []
unfolding reprice_texts pair_texts refusal_of refused_text reading_of refused_or text sample every_below levels_fit rule_levels_fit
    levels_below weights_fit outweighs heavier rises onward asking exactly rest_of_line end times is_digit is_number spelt cut parts is_letter
    kind_of line number_line kind_line is_list list_line filled decisions_of zero_rule action rule query record_of refused_reading entries lines
    draft file handed read_of line_of decimal decimal_by
refused = refl
