-- What the calls return means what document 01 says of it.
use Prim.Native.Nat.{ℕ, zero, suc, ◌^◌, ◌≤◌}
use Rattle.std.specs.Prelude.{Bool, false, List, [], ◌++◌, ◌≡◌, ◌↔◌, ◌<◌, T, take, get_or, Ok}
use Rattle.std.proofs.Math.Bool.{true}
use Rattle.std.proofs.Math.Option.{Option as Found, none, some}
use Rattle.std.proofs.Math.Path.{refl}
use Rattle.std.proofs.Common.{sym, ◌∙◌, arith, ne_eqb, le→leb, lt→ltb, pow_pos}
use Rattle.std.proofs.Math.Decide.{ℕ_discrete}
use Rattle.std.proofs.Math.Dec.{leb, leb→le}
use Rattle.std.proofs.Math.ListN.{length, drop, replicate}
use Rattle.std.proofs.lemmas.List.{length-replicate}
use Rattle.std.specs.List.{list_all}
use Rattle.base.specs.Laws.Tests.{and_make, and_left, and_right, entry_or, entries_make, get_or_filled}
use Rattle.base.specs.Lists.{filled}
use Rattle.base.specs.Laws.Lists.{filled_length, filled_front, filled_past}
use Rattle.mask.specs.Mask.{is_mask}
use Rattle.policy.specs.declared.Policy.{Policy}
use Rattle.policy.specs.declared.Query.{Query}
use Rattle.policy.specs.declared.Queries.{Queries}
use Rattle.policy.specs.Record.{zero_query}
use Rattle.policy.specs.Questions.{Question, first_no, questions, is_decision, in_range, query_in_range, queries_in_range, query_questions, Accepted}
use Rattle.policy.specs.Questions.{record_questions}
use Rattle.policy.specs.Laws.{answers, answered_with, accepted, first_no_zero, first_no_most, first_no_few, in_range_lem}
use Rattle.model.specs.World.{world_of}
use Rattle.model.specs.Fire.{State, up_to, fired_of}
use Rattle.model.specs.Laws.Marks.{holds}
use Rattle.model.specs.Laws.Strata.{stratified}
use Rattle.model.specs.Laws.Levels.{good_up_to}
use Rattle.weight.specs.Cost.{cost_of}
use Rattle.policy.specs.Refusal.{refuse, number_of, refusal_of, outcome}
use Rattle.policy.specs.Laws.Refusals.{number_of_refusal, outcome_ok, outcome_none}
use Rattle.engine.specs.Calls.{refused_or, offer_questions, list_questions, enough, slim_sets, best, answer, judge_of, choose_of, list_of}
use Rattle.engine.specs.Calls.{list_after, check_of, check_record_of, fired_for, fire_of}
use Rattle.engine.specs.Sets.{Offered, Enough}
use Rattle.engine.specs.Words.{word_in_range, word_questions}
use Rattle.engine.specs.Meaning.{Refuses, Checks, Judges, Fires, Chooses, ListsSlim}
use Rattle.engine.specs.Laws.Refusals.{offer_accepted, list_accepted}
use Rattle.engine.specs.Laws.Decide.{fired_shows, enough_iff, best_found, none_found, lists}
use Rattle.engine.specs.Laws.Keep.{keep_best}

module _ (p : Policy) (qs : Queries) where
  -- the query of zeros is in range of every policy that is
  zero_fits : T (in_range p) → T (query_in_range p zero_query)
  unfolding query_in_range
  zero_fits t = and_make (is_decision p.decisions 0) (is_mask p.actions 0)
      (lt→ltb 0 p.decisions (in_range_lem p t).some_decision) (lt→ltb 0 (2 ^ p.actions) (pow_pos p.actions))

  -- the record is accepted exactly where it is so by itself and with each of at most 64 queries
  record_fine : (check_record_of p qs ≡ 0)
      ↔ ((check_of p ≡ 0) × (qs.count ≤ 64) × ((i : ℕ) → i < qs.count → Accepted p (get_or qs.at i zero_query)))
  unfolding check_of check_record_of queries_in_range Accepted
  record_fine =
      let few = leb qs.count 64 in
      let fit = list_all (query_in_range p) (take qs.count qs.at) in (
        λ e.
            let known = answers p (queries_in_range p qs) e in
            let all = and_right few fit known.given in
            let each = entry_or (query_in_range p) zero_query (zero_fits known.range) qs.count qs.at all in (
              first_no_zero (questions p true) (answered_with known true tt),
              leb→le qs.count 64 (and_left few fit known.given),
              λ i h. first_no_zero (query_questions p _) (answered_with known (query_in_range p _) (each i h)),
            ),
        λ h.
            let each = entries_make (query_in_range p) zero_query qs.count qs.at (λ i less. (accepted p _ (h.2 i less)).given) in
            first_no_zero (record_questions p qs) (answered_with (answers p true h.0) (queries_in_range p qs)
            (and_make few fit (le→leb qs.count 64 h.1) each)),
      )

  pub record_means : Checks p qs (outcome (check_record_of p qs))
  record_means = (λ e. record_fine.0 (outcome_ok (check_record_of p qs) (sym e)), λ h. outcome_none (check_record_of p qs) (record_fine.1 h))

-- the number of the first question answered no is that of the refusal
refuses : (qs : List Question) (n : ℕ) → first_no qs ≤ 10 → first_no qs ≡ suc n → Refuses qs (number_of (refusal_of (suc n)))
refuses qs n few e =
    let same : number_of (refusal_of (suc n)) ≡ suc n = number_of_refusal (suc n) (λ z. omega arith) (omega arith) in
    (e ∙ sym same, λ z. omega (arith, same))

module _ (p : Policy) (q : Query) where
  pub offers_few : (s : ℕ) → first_no (offer_questions p q s) ≤ 10
  unfolding offer_questions questions
  offers_few s = first_no_most 10 (offer_questions p q s) tt

  pub words_few : (w : ℕ) → first_no (word_questions p q w) ≤ 10
  unfolding word_questions
  words_few w = omega (arith, first_no_few p (word_in_range p q w))

  query_few : first_no (query_questions p q) ≤ 10
  query_few = omega (arith, first_no_few p (query_in_range p q))

  lists_few : (places : ℕ) → first_no (list_questions p q places) ≤ 10
  unfolding list_questions questions
  lists_few places = first_no_most 10 (list_questions p q places) tt

  pub judge_means : (s : ℕ) → Judges p q s (judge_of p q s)
  unfolding judge_of refused_or
  judge_means s = go (first_no (offer_questions p q s)) refl
    where
      go : (n : ℕ) → first_no (offer_questions p q s) ≡ n
          → Judges p q s (refused_or n refuse (Ok (record { enough = enough p q s; cost = cost_of p s })))
      go zero e = let known = offer_accepted p q s e in (e, enough_iff p q known.0 s known.1, refl)
      go (suc n) e = refuses (offer_questions p q s) n (offers_few s) e

  -- at most 128 rules fire
  fired_few : Accepted p q → (s : ℕ) → length (fired_for p q s) ≤ 128
  unfolding fired_for fired_of
  fired_few ok s = go (holds end q.want)
    where
      end : State
      end = up_to p (world_of p q.done s) q.want 16

      few : length end.fired ≤ 128
      few = omega (arith, (good_up_to p (world_of p q.done s) q.want (stratified p q ok) 16).count)

      go : (b : Bool) → length {A = ℕ} (elim b [ true ↦ end.fired | false ↦ [] ]) ≤ 128
      go true = few
      go false = omega arith

  -- and none where the set is not enough
  fired_none : Accepted p q → (s : ℕ) → Offered p q s → ¬ Enough p q s → length (fired_for p q s) ≡ 0
  unfolding enough
  fired_none ok s o n = elim (ℕ_discrete (length (fired_for p q s)) 0) [
    | yes e ↦ e
    | no ne ↦ absurd (n ((enough_iff p q ok s o).0 (rw (ne_eqb (length (fired_for p q s)) 0 ne) tt)))
  ]

  fire_answers : (s : ℕ) → first_no (offer_questions p q s) ≡ 0
      → Fires p q s (record { refusal = 0; count = length (fired_for p q s); rules = filled 128 0 (fired_for p q s) })
  fire_answers s e =
      let known = offer_accepted p q s e in
      let fired = fired_for p q s in
      let few = fired_few known.0 s in
      record {
        asked = sym e;
        refused = λ ne. absurd (ne refl);
        shows = λ z h. rw (filled_front 128 (length fired) 0 fired refl)
            (fired_shows p q known.0 s ((enough_iff p q known.0 s known.1).1 h));
        none = fired_none known.0 s known.1;
        few = few;
        places = filled_length 128 0 fired few;
        past = filled_past 128 0 fired;
      }

  fire_refuses : (s n : ℕ) → first_no (offer_questions p q s) ≡ n → ¬ (n ≡ 0)
      → Fires p q s (record { refusal = n; count = 0; rules = replicate 128 0 })
  fire_refuses s n e ne = record {
    asked = sym e;
    refused = λ h. refl;
    shows = λ z. absurd (ne z);
    none = λ h. refl;
    few = omega arith;
    places = length-replicate {A = ℕ} 128 0;
    past = λ i h. get_or_filled {A = ℕ} 128 i 0;
  }

  pub fire_means : (s : ℕ) → Fires p q s (fire_of p q s)
  unfolding fire_of refused_or
  fire_means s = go (first_no (offer_questions p q s)) refl
    where
      go : (n : ℕ) → first_no (offer_questions p q s) ≡ n → Fires p q s
          (refused_or n (λ n. record { refusal = n; count = 0; rules = replicate 128 0 })
          (record { refusal = 0; count = length (fired_for p q s); rules = filled 128 0 (fired_for p q s) }))
      go zero e = fire_answers s e
      go (suc n) e = fire_refuses s (suc n) e (λ z. omega arith)

  -- what was found is the best set, or no set is enough
  answer_means : Accepted p q → (o : Found ℕ) → best p q ≡ o → Chooses p q (answer p q (length (slim_sets p q)) o)
  unfolding answer
  answer_means ok none e = (ok, none_found p q ok e)
  answer_means ok (some s) e =
      let b = best_found p q ok s e in (ok, b, keep_best p q ok s b.enough, refl, (lists p q ok, refl))

  pub choose_means : Chooses p q (choose_of p q)
  unfolding choose_of refused_or Accepted
  choose_means = go (first_no (query_questions p q)) refl
    where
      go : (n : ℕ) → first_no (query_questions p q) ≡ n
          → Chooses p q (refused_or n refuse (answer p q (length (slim_sets p q)) (best p q)))
      go zero e = answer_means e (best p q) refl
      go (suc n) e = refuses (query_questions p q) n query_few e

  pub list_means : (before : List ℕ) → ListsSlim p q before (list_after p q before) (list_of p q (length before))
  unfolding list_of list_after refused_or
  list_means before = go (first_no (list_questions p q (length before))) refl
    where
      go : (n : ℕ) → first_no (list_questions p q (length before)) ≡ n
          → ListsSlim p q before (refused_or n (λ k. before) (slim_sets p q ++ drop (length (slim_sets p q)) before))
          (refused_or n refuse (Ok (length (slim_sets p q))))
      go zero e = (e, (lists p q (list_accepted p q (length before) e), refl), refl)
      go (suc n) e = (refuses (list_questions p q (length before)) n (lists_few (length before)) e, refl)
