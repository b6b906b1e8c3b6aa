-- No text of a file is longer than 80,000 bytes, and no file has more than 64.
use Rattle.std.specs.Prelude.{ℕ, ◌≤◌, List, map, length, take}
use Rattle.std.proofs.Common.{arith, length-take}
use Rattle.std.proofs.lemmas.List.{length-map}
use Rattle.text.specs.Handing.{text_at}
use Rattle.text.specs.Laws.Handed.{each_fits}
use Rattle.text.specs.Laws.Refused.{refused_fits, refused_few}
use Rattle.reader.specs.File.{read_of}
use Rattle.reader.specs.Laws.States.{states}
use Rattle.results.specs.Printed.{longest_result, result_text, reading_texts, clear_texts}
use Rattle.results.specs.Laws.Fits.{text_fits}

pub clear_fits : (s : List ℕ) (i : ℕ) → length (text_at (clear_texts s) i) ≤ longest_result
unfolding clear_texts reading_texts
clear_fits s =
    let r = read_of s in
    refused_fits longest_result r.refusal _ (omega arith) (λ none.
    each_fits longest_result (result_text r.policy) (text_fits r.policy) (take r.queries.count r.queries.at))

-- a refusal is one text, and a file has at most 64 queries
pub few_texts : (s : List ℕ) → length (clear_texts s) ≤ 64
unfolding clear_texts reading_texts
few_texts s =
    let r = read_of s in
    let queries = take r.queries.count r.queries.at in
    refused_few 64 r.refusal (map (result_text r.policy) queries) (omega arith) (λ none.
    rw length-map (omega (arith, length-take r.queries.count r.queries.at, (states s none).draft.clear.places)))
