-- No text of two files is longer than 64 bytes, and they have no more than 64.
use Rattle.std.specs.Prelude.{Some, None, ℕ, ◌≤◌, Bool, List, [], ◌∷◌, map, ◌≡◌, length, take}
use Rattle.std.proofs.Math.Bool.{true, false}
use Rattle.std.proofs.Common.{sym, ◌∙◌, arith, length-append, length-take}
use Rattle.std.proofs.Math.Decide.{ℕ_discrete}
use Rattle.std.proofs.lemmas.List.{length-map}
use Rattle.engine.specs.Laws.Refusals.{refused}
use Rattle.alike.specs.Comparable.{comparable}
use Rattle.repricing.specs.Call.{Price}
use Rattle.repricing.specs.declared.Prices.{Prices}
use Rattle.format.specs.Laws.Lengths.{ten_digits, line_length}
use Rattle.text.specs.Handing.{text_at}
use Rattle.text.specs.Laws.Handed.{only_fits, each_fits}
use Rattle.text.specs.Laws.Refused.{refused_fits, refused_few}
use Rattle.reader.specs.declared.Reading.{Reading}
use Rattle.reader.specs.File.{read_of}
use Rattle.reader.specs.Laws.States.{states}
use Rattle.pairs.specs.Texts.{longest_prices, price_text, prices_text, query_text, apart_text, refusal_of, pair_texts, reprice_texts}

price_length : (c : Price) → length (price_text c) ≤ 10
unfolding price_text
price_length None = omega arith
price_length (Some n) = ten_digits n

query_length : (want : ℕ) (c : Prices) → length (prices_text want c) ≤ longest_prices
unfolding prices_text
query_length want c =
    simp (length-append, line_length) (omega (arith, ten_digits want, price_length c.before, price_length c.after))

module _ (r r' : Reading) where
  -- the texts by whether the policies can be compared
  abbrev pub texts : Bool → List (List ℕ)
  texts b = elim b [
    | true ↦ map (query_text r.policy r'.policy) (take r.queries.count r.queries.at)
    | false ↦ apart_text ∷ []
  ]

  texts_fit : (b : Bool) (i : ℕ) → length (text_at (texts b) i) ≤ longest_prices
  unfolding apart_text
  texts_fit true i =
      each_fits longest_prices (query_text r.policy r'.policy) (λ q. query_length q.want _)
      (take r.queries.count r.queries.at) i
  texts_fit false i = only_fits longest_prices apart_text i (omega arith)

  -- a query has a place in the array of them
  texts_few : length r.queries.at ≤ 64 → (b : Bool) → length (texts b) ≤ 64
  texts_few places true =
      rw length-map (omega (arith, length-take r.queries.count r.queries.at))
  texts_few places false = omega arith

  -- where nothing is refused, the first file is not
  first_passed : refusal_of r r' ≡ 0 → r.refusal ≡ 0
  unfolding refusal_of
  first_passed none = elim (ℕ_discrete r.refusal 0) [
    | yes ok ↦ ok
    | no some ↦ absurd (some (sym (refused r.refusal (λ n. n) _ some) ∙ none))
  ]

pub reprice_fits : (s s' : List ℕ) (i : ℕ) → length (text_at (reprice_texts s s') i) ≤ longest_prices
unfolding reprice_texts pair_texts
reprice_fits s s' =
    let r = read_of s in
    let r' = read_of s' in
    refused_fits longest_prices (refusal_of r r') _ (omega arith) (λ none. texts_fit r r' (comparable r.policy r'.policy))

pub few_texts : (s s' : List ℕ) → length (reprice_texts s s') ≤ 64
unfolding reprice_texts pair_texts
few_texts s s' =
    let r = read_of s in
    let r' = read_of s' in
    refused_few 64 (refusal_of r r') _ (omega arith) (λ none.
    texts_few r r' (omega (arith, (states s (first_passed r r' none)).draft.clear.places)) (comparable r.policy r'.policy))
