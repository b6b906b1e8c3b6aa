-- What `reprice` prints for two files is what the call returns for each query of the first.
use Rattle.std.specs.Prelude.{Some, None, Ok, ℕ, ◌≤◌, ◌<◌, true, false, ◌&&◌, List, [], ◌∷◌, map, ◌≢◌, ◌≡◌, refl, leb, length, take}
use Rattle.std.proofs.Common.{ap, ◌∙◌, arith, length-take, get_or-take}
use Rattle.std.proofs.Math.Path.{subst}
use Rattle.std.proofs.Math.Dec.{T}
use Rattle.std.proofs.lemmas.List.{length-map}
use Rattle.std.specs.List.{list_all}
use Rattle.base.specs.Laws.Tests.{is_true, is_false}
use Rattle.policy.specs.declared.Policy.{Policy}
use Rattle.policy.specs.declared.Query.{Query}
use Rattle.policy.specs.declared.Queries.{Queries}
use Rattle.policy.specs.Record.{most_queries, zero_query}
use Rattle.policy.specs.Questions.{is_query, query_in_range, queries_in_range, record_questions, check_record_of, Accepted}
use Rattle.policy.specs.Laws.{first_no_zero, answered_with}
use Rattle.engine.specs.Laws.Means.{record_means}
use Rattle.engine.specs.Laws.Refusals.{answered, refused}
use Rattle.alike.specs.Comparable.{Comparable, comparable}
use Rattle.alike.specs.Laws.{comparable_iff}
use Rattle.policy.specs.Laws.Refusals.{outcome_none}
use Rattle.repricing.specs.Call.{prices, reprice_of}
use Rattle.text.specs.Put.{refused_text}
use Rattle.text.specs.Handing.{text_at}
use Rattle.text.specs.Laws.Handed.{map_at}
use Rattle.reader.specs.declared.Reading.{Reading}
use Rattle.reader.specs.File.{read_of}
use Rattle.reader.specs.Claim.{AcceptedFile, query_of}
use Rattle.reader.specs.Laws.Back.{queries_few}
use Rattle.reader.specs.Laws.Clear.{stated_queries}
use Rattle.reader.specs.Laws.States.{states, stated_answers, query_accepted}
use Rattle.pairs.specs.Texts.{query_text, apart_text, refusal_of, pair_texts, reprice_texts}
use Rattle.pairs.specs.Claim.{old, new, count, FilesRepriced}

-- the line of a refusal alone
abbrev line : ℕ → List (List ℕ)
line n = refused_text n ∷ []

-- queries that are in range of one policy are so of every other with the same counts
queries_same : (p p' : Policy) (qs : Queries) → p.decisions ≡ p'.decisions → p.actions ≡ p'.actions
    → queries_in_range p qs ≡ queries_in_range p' qs
unfolding queries_in_range query_in_range
queries_same p p' qs decisions actions =
    λ i. leb qs.count most_queries && list_all (is_query (decisions i) (actions i)) (take qs.count qs.at)

-- what the call returns where both policies are accepted with the query
module _ (p p' : Policy) (q : Query) (ok : Accepted p q) (ok' : Accepted p' q) where
  call_compared : comparable p p' ≡ true → reprice_of p p' q ≡ Ok (Some (prices p p' q))
  unfolding reprice_of Accepted
  call_compared e = rw e (answered _ _ _ ok ∙ answered _ _ _ ok')

  call_apart : comparable p p' ≡ false → reprice_of p p' q ≡ Ok None
  unfolding reprice_of Accepted
  call_apart e = rw e (answered _ _ _ ok ∙ answered _ _ _ ok')

module _ (s s' : List ℕ) where
  abbrev r : Reading
  r = read_of s

  abbrev r' : Reading
  r' = read_of s'

  -- the texts, where a question is answered no, and where none is
  refused_texts : {n : ℕ} → refusal_of r r' ≡ n → n ≢ 0 → reprice_texts s s' ≡ line n
  unfolding reprice_texts pair_texts
  refused_texts {n} e some = rw e (refused n line _ some)

  module _ (none : refusal_of r r' ≡ 0) where
    query_texts_lem : comparable (old s s') (new s s') ≡ true
        → reprice_texts s s' ≡ map (query_text (old s s') (new s s')) (take r.queries.count r.queries.at)
    unfolding reprice_texts pair_texts
    query_texts_lem e = rw e (answered (refusal_of r r') line _ none)

    apart_texts : comparable (old s s') (new s s') ≡ false → reprice_texts s s' ≡ apart_text ∷ []
    unfolding reprice_texts pair_texts
    apart_texts e = rw e (answered (refusal_of r r') line _ none)

  -- both files are accepted
  module _ (ok : AcceptedFile s) (ok' : AcceptedFile s') where
    asked : {n : ℕ} → check_record_of (new s s') r.queries ≡ n → refusal_of r r' ≡ n
    unfolding refusal_of
    asked e = answered r.refusal _ _ ok ∙ answered r'.refusal _ _ ok' ∙ e

    -- comparable policies have the same counts, so the first's queries are in range of the second
    none_refused : Comparable (old s s') (new s s') → check_record_of (new s s') r.queries ≡ 0
    unfolding check_record_of
    none_refused (a, w, agree) =
        let same = queries_same (old s s') (new s s') r.queries (ap (λ (p : Policy). p.decisions) agree)
        (ap (λ (p : Policy). p.actions) agree) in
        let rest = queries_in_range (new s s') r.queries in
        let fit : T rest = subst T same (stated_queries (states s ok).draft) in
        first_no_zero (record_questions (new s s') r.queries) (answered_with (stated_answers (states s' ok') rest fit) rest fit)

    module _ (i : ℕ) (h : i < count s s') where
      first_accepted : Accepted (old s s') (query_of r i)
      first_accepted = query_accepted (states s ok) i h

      second_accepted : check_record_of (new s s') r.queries ≡ 0 → Accepted (new s s') (query_of r i)
      second_accepted e = ((record_means (new s s') r.queries).0 (outcome_none _ e)).2 i h

    few : count s s' ≤ length r.queries.at
    few =
        let places = (states s ok).draft.clear.places in
        omega (arith, places, queries_few (old s s') r.queries places (stated_queries (states s ok).draft))

pub files_repriced : (s s' : List ℕ) → FilesRepriced s s'
unfolding refusal_of
files_repriced s s' = record {
  first = λ some. refused_texts s s' (refused (read_of s).refusal (λ n. n) _ some) some;
  second = λ ok some.
      refused_texts s s' (answered (read_of s).refusal _ _ ok ∙ refused (read_of s').refusal (λ n. n) _ some) some;
  many = λ ok ok' c.
      let texts = query_texts_lem s s' (asked s s' ok ok' (none_refused s s' ok ok' c))
      (is_true (comparable (old s s') (new s s')) ((comparable_iff (old s s') (new s s')).1 c)) in
      ap length texts ∙ length-map (take (count s s') (read_of s).queries.at) (query_text (old s s') (new s s'))
      ∙ omega (arith, few s s' ok ok', length-take (count s s') (read_of s).queries.at);
  each = λ ok ok' c i h.
      let none = none_refused s s' ok ok' c in
      let tested = is_true (comparable (old s s') (new s s')) ((comparable_iff (old s s') (new s s')).1 c) in
      let texts = query_texts_lem s s' (asked s s' ok ok' none) tested in
      let q = query_of (read_of s) i in
      let l = take (count s s') (read_of s).queries.at in
      let at = map_at (query_text (old s s') (new s s')) zero_query [] l i
      (omega (arith, few s s' ok ok', length-take (count s s') (read_of s).queries.at)) in (
        prices (old s s') (new s s') q,
        call_compared (old s s') (new s s') q (first_accepted s s' ok ok' i h) (second_accepted s s' ok ok' i h none) tested,
        ap (λ (t : List (List ℕ)). text_at t i) texts
            ∙ at
            ∙ ap (query_text (old s s') (new s s')) (get_or-take (count s s') (read_of s).queries.at i zero_query h),
      );
  apart = λ ok ok' not none.
      let tested = is_false (comparable (old s s') (new s s')) (λ t. not ((comparable_iff (old s s') (new s s')).0 t)) in (
        apart_texts s s' (asked s s' ok ok' none) tested,
        λ i h. call_apart (old s s') (new s s') (query_of (read_of s) i) (first_accepted s s' ok ok' i h)
            (second_accepted s s' ok ok' i h none) tested,
      );
  over = λ ok ok' some. refused_texts s s' (asked s s' ok ok' refl) some;
}
