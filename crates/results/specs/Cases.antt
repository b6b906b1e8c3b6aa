-- Document 01's run whole: from the bytes of its file to the texts that `clear` prints.
use Rattle.std.specs.Prelude.{Some, None, Ok, ℕ, List, [], ◌∷◌, ◌++◌, ◌≡◌, refl, length, take}
use Rattle.std.proofs.Common.{◌∙◌, ap}
use Rattle.base.specs.Every.{every_below}
use Rattle.base.specs.Lists.{filled}
use Rattle.policy.specs.declared.Query.{Query}
use Rattle.policy.specs.Cases.{sample, ask}
use Rattle.policy.specs.Questions.{levels_fit, rule_levels_fit, levels_below, weights_fit, outweighs, heavier, rises, Accepted}
use Rattle.engine.specs.declared.Choice.{Choice}
use Rattle.engine.specs.declared.Firing.{Firing}
use Rattle.engine.specs.Calls.{Answer, refused_or, fired_for, slim_sets, choose_of}
use Rattle.engine.specs.Cases.Run.{run, tested}
use Rattle.engine.specs.Laws.{claim_holds, not_to_touch}
use Rattle.format.specs.Text.{ascii, decimal, decimal_by}
use Rattle.format.specs.Written.{line_of, joined, commas}
use Rattle.format.specs.Parser.{onward, ask as asking, exactly, rest_of_line, end, times}
use Rattle.format.specs.Format.{is_digit, is_number, spelt, cut, parts, is_letter, kind_of, is_list, decisions_of, line, number_line, kind_line}
use Rattle.format.specs.Format.{list_line}
use Rattle.format.specs.Entries.{zero_rule, action, rule, query, record_of, entries}
use Rattle.reader.specs.File.{reading_of, refused_reading, lines, draft, file, handed, read_of}
use Rattle.reader.specs.Cases.{text}
use Rattle.results.specs.Printed.{answer_text, sets_listed, rules_fired, result_text, reading_texts, clear_texts}
use Rattle.results.specs.Laws.Listed.{lists_slim}

-- what is read of it
read_text : read_of text ≡ reading_of sample (ask 0 0 ∷ ask 0 2 ∷ ask 0 8 ∷ [])
unfolding text sample every_below levels_fit rule_levels_fit levels_below weights_fit outweighs heavier rises
    onward asking exactly rest_of_line end times is_digit is_number spelt cut parts is_letter kind_of line number_line kind_line is_list list_line
    filled decisions_of zero_rule action rule query record_of reading_of refused_reading entries lines draft file handed read_of
read_text = refl

-- the text of a query by its answer, its slim sets and the rules fired for the best
chosen_text : (q : Query) (c : Choice) (sets rules : List ℕ) → Accepted sample q → choose_of sample q ≡ Ok (Some c)
    → slim_sets sample q ≡ sets → fired_for sample q c.mask ≡ rules → result_text sample q
    ≡ line_of (ascii "want") (decimal q.want) ++ answer_text (Ok (Some c)) sets (λ _. take (length rules) (filled 128 0 rules))
unfolding result_text answer_text rules_fired
chosen_text q c sets rules ok chosen slims fired =
    let want = line_of (ascii "want") (decimal q.want) in
    let best = ((not_to_touch sample q ok).chosen c chosen).0.enough.offered in
    let shown = ap (λ (f : Firing). take f.count f.rules) ((claim_holds sample q ok).fires c.mask best)
    ∙ ap (λ (l : List ℕ). take (length l) (filled 128 0 l)) fired in
    ap (λ (a : Answer). want ++ answer_text a (sets_listed sample q) (rules_fired sample q)) chosen
    ∙ ap (λ (l : List ℕ). want ++ answer_text (Ok (Some c)) l (rules_fired sample q)) (lists_slim sample q ok ∙ slims)
    ∙ ap (λ (l : List ℕ). want ++ answer_text (Ok (Some c)) sets (λ _. l)) shown

none_text : (q : Query) → choose_of sample q ≡ Ok None → result_text sample q
    ≡ line_of (ascii "want") (decimal q.want) ++ line_of (ascii "best") (ascii "none")
unfolding result_text answer_text
none_text q e =
    ap (λ (a : Answer). line_of (ascii "want") (decimal q.want) ++ answer_text a (sets_listed sample q) (rules_fired sample q)) e

-- its three texts
first : result_text sample (ask 0 0) ≡ ascii "want=0\nbest=4\nkeep=2\ncost=4\nslim=3\nlist=1,4,8\nfired=1,3\n"
unfolding answer_text filled line_of joined commas decimal decimal_by
first = chosen_text (ask 0 0) _ _ _ tested.accepted run.first run.first_list run.first_fired

second : result_text sample (ask 0 2) ≡ ascii "want=0\nbest=none\n"
unfolding line_of decimal decimal_by
second = none_text (ask 0 2) run.second

third : result_text sample (ask 0 8) ≡ ascii "want=0\nbest=0\nkeep=2\ncost=0\nslim=1\nlist=0\nfired=0,3\n"
unfolding answer_text filled line_of joined commas decimal decimal_by
third = chosen_text (ask 0 8) _ _ _ tested.j_accepted run.third run.third_list run.third_fired

pub printed : clear_texts text ≡
    ascii "want=0\nbest=4\nkeep=2\ncost=4\nslim=3\nlist=1,4,8\nfired=1,3\n"
    ∷ ascii "want=0\nbest=none\n"
    ∷ ascii "want=0\nbest=0\nkeep=2\ncost=0\nslim=1\nlist=0\nfired=0,3\n" ∷ []
unfolding clear_texts reading_texts refused_or reading_of filled
printed = ap reading_texts read_text ∙ (λ i. first i ∷ second i ∷ third i ∷ [])
