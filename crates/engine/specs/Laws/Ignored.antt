-- Entries past a count are ignored: records that agree below their counts are given the same answers.
use Prim.Native.Nat.{ℕ, zero, suc, ◌≤◌}
use Rattle.std.specs.Prelude.{Bool, true, ◌&&◌, ◌≡◌, T, length, replicate}
use mathlib.Core.List.{List, []}
use Rattle.std.proofs.Math.Path.{refl, ap}
use Rattle.std.proofs.Common.{sym, ◌∙◌, le_refl}
use native.Mathlib.Omega.{arith}
use Rattle.std.proofs.Math.Dec.{leb}
use Rattle.policy.specs.declared.Policy.{Policy}
use Rattle.policy.specs.declared.Query.{Query}
use Rattle.policy.specs.declared.Rule.{Rule}
use Rattle.policy.specs.Record.{rule_of, cut_rule, cut, Agree}
use Rattle.policy.specs.Questions.{first_no, questions, query_in_range, queries_in_range, in_range}
use Rattle.policy.specs.Laws.{answers, accepted}
use Rattle.policy.specs.Laws.Cut.{listed_cut, rule_cut, head_cut, weight_cut, others_cut, rise_cut, fit_with_cut, questions_cut}
use Rattle.model.specs.Laws.Cut.{world_cut, fired_cut}
use Rattle.weight.specs.Cost.{weighed, cost_of}
use Rattle.strata.specs.Levels.{asked, raised, lowest, level_questions, found_levels}
use Rattle.strata.specs.Laws.Levels.{rounds_same}
use Rattle.words.specs.Models.{asking}
use Rattle.words.specs.Laws.Alike.{model_alike}
use Rattle.engine.specs.Calls.{answer, offer_in_range, offer_questions, fired_for, enough, clears, slim_sets, best, list_questions}
use Rattle.engine.specs.Calls.{check_of, check_record_of, judge_of, fire_of, choose_of, list_of, list_after}
use Rattle.engine.specs.Words.{word_questions, words_of}
use Rattle.engine.specs.Same.{Ignored}
use Rattle.engine.specs.Laws.Alike.{refused_same, slim_sets_alike, answer_alike}
use Rattle.engine.specs.Laws.Refusals.{offer_accepted, list_accepted}

module _ (p : Policy) where
  -- the cost
  weighed_cut : (s n : ℕ) → n ≤ p.actions → weighed (cut p).action s n ≡ weighed p.action s n
  unfolding weighed
  weighed_cut s zero h = refl
  weighed_cut s (suc n) h = rw (weighed_cut s n (omega arith), weight_cut p n h)

  cost_cut : (s : ℕ) → cost_of (cut p) s ≡ cost_of p s
  unfolding cost_of
  cost_cut s = weighed_cut s p.actions (le_refl p.actions)

-- where question 3 is answered yes
module _ (p : Policy) (q : Query) (t : T (in_range p)) where
  fired_for_cut : (s : ℕ) → fired_for (cut p) q s ≡ fired_for p q s
  unfolding fired_for
  fired_for_cut s = rw (world_cut p q.done s) (fired_cut p t _ _)

  enough_cut : (s : ℕ) → enough (cut p) q s ≡ enough p q s
  unfolding enough
  enough_cut s = rw (fired_for_cut s)

  clears_cut : (s : ℕ) → clears (cut p) q s ≡ clears p q s
  unfolding clears
  clears_cut s = rw (enough_cut s)

  slim_sets_cut : slim_sets (cut p) q ≡ slim_sets p q
  slim_sets_cut = slim_sets_alike (cut p) p q refl clears_cut

  answer_cut : answer (cut p) q (length (slim_sets (cut p) q)) (best (cut p) q) ≡ answer p q (length (slim_sets p q)) (best p q)
  answer_cut = answer_alike (cut p) p q refl clears_cut (cost_cut p)

-- the levels found
asked_level_cut : (level : List ℕ) (r : Rule) → asked level (cut_rule r) ≡ asked level r
unfolding asked
asked_level_cut level r = rw (listed_cut r.ifs, listed_cut r.unless)

module _ (p : Policy) where
  raised_cut : (n : ℕ) → n ≤ p.rules → (level : List ℕ) → raised (cut p) n level ≡ raised p n level
  unfolding raised
  raised_cut zero h level = refl
  raised_cut (suc n) h level =
      let before : n ≤ p.rules = omega arith in
      rw (raised_cut n before level, head_cut p n h, rule_cut p n h, asked_level_cut (raised p n level) (rule_of p n))

  levels_cut : found_levels (cut p) ≡ found_levels p
  unfolding found_levels level_questions lowest
  levels_cut = rw (
    others_cut p,
    rise_cut p,
    rounds_same (cut p) p (fit_with_cut p) (raised_cut p.rules (le_refl p.rules)) 1921 (replicate 128 0),
  )

module _ (p : Policy) where
  asked_cut : (rest : Bool) → first_no (questions (cut p) rest) ≡ first_no (questions p rest)
  unfolding questions
  asked_cut rest = questions_cut p rest [] [] (λ t. refl)

  module _ (q : Query) where
    offer_cut : (s : ℕ) → first_no (offer_questions (cut p) q s) ≡ first_no (offer_questions p q s)
    unfolding offer_questions query_in_range
    offer_cut s = questions_cut p (offer_in_range p q s) _ _ (λ t. refl)

    list_cut : (places : ℕ) → first_no (list_questions (cut p) q places) ≡ first_no (list_questions p q places)
    unfolding list_questions query_in_range
    list_cut places = questions_cut p (query_in_range p q) _ _ (λ t. rw (slim_sets_cut p q t))

    judge_cut : (s : ℕ) → judge_of (cut p) q s ≡ judge_of p q s
    unfolding judge_of
    judge_cut s = refused_same _ _ _ _ _ (offer_cut s) (λ e.
        let t = (accepted p q (offer_accepted p q s e).0).range in rw (enough_cut p q t s, cost_cut p s))

    fire_cut : (s : ℕ) → fire_of (cut p) q s ≡ fire_of p q s
    unfolding fire_of
    fire_cut s = refused_same _ _ _ _ _ (offer_cut s) (λ e.
        let t = (accepted p q (offer_accepted p q s e).0).range in rw (fired_for_cut p q t s))

    choose_cut : choose_of (cut p) q ≡ choose_of p q
    unfolding choose_of query_in_range
    choose_cut = refused_same _ _ _ _ _ (asked_cut (query_in_range p q)) (λ e.
        let t = (answers p (query_in_range p q) e).range in
        answer_cut p q t)

    count_cut : (places : ℕ) → list_of (cut p) q places ≡ list_of p q places
    unfolding list_of
    count_cut places = refused_same _ _ _ _ _ (list_cut places) (λ e.
        let t = (accepted p q (list_accepted p q places e)).range in rw (slim_sets_cut p q t))

    after_cut : (before : List ℕ) → list_after (cut p) q before ≡ list_after p q before
    unfolding list_after
    after_cut before = refused_same _ _ _ _ _ (list_cut (length before)) (λ e.
        let t = (accepted p q (list_accepted p q (length before) e)).range in rw (slim_sets_cut p q t))

    words_cut : (w : ℕ) → words_of (cut p) q w ≡ words_of p q w
    unfolding words_of word_questions query_in_range
    words_cut w = refused_same _ _ _ _ _ (asked_cut (query_in_range p q && leb w 1023)) (λ e.
        let t = (answers p (query_in_range p q && leb w 1023) e).range in
        let same = model_alike (cut p) p q w refl refl (λ d s h. clears_cut p (asking q d) t s) in
        ap (λ (l : List ℕ). record { refusal = 0; word = l }) same)

  -- a record and the record without the entries past its counts
  pub cut_same : Ignored (cut p) p
  unfolding check_of check_record_of queries_in_range query_in_range
  cut_same = record {
    check = asked_cut true;
    checked = λ qs. asked_cut (queries_in_range p qs);
    levels = levels_cut p;
    answers = λ q. record {
      judge = judge_cut q;
      choose = choose_cut q;
      list = count_cut q;
      after = after_cut q;
      words = words_cut q;
    };
    fire = fire_cut;
  }

-- and so any two that agree below their counts: both are answered as their cut, which is one
module _ (p p' : Policy) (e : Agree p p') where
  through : {A : Type 0} (f : Policy → A) → f (cut p) ≡ f p → f (cut p') ≡ f p' → f p ≡ f p'
  through f a b = sym a ∙ ap f e ∙ b

  pub ignored : Ignored p p'
  ignored = let a = cut_same p in let b = cut_same p' in record {
    check = through check_of a.check b.check;
    checked = λ qs. through (λ r. check_record_of r qs) (a.checked qs) (b.checked qs);
    levels = through found_levels a.levels b.levels;
    answers = λ q. let c = a.answers q in let d = b.answers q in record {
      judge = λ s. through (λ r. judge_of r q s) (c.judge s) (d.judge s);
      choose = through (λ r. choose_of r q) c.choose d.choose;
      list = λ places. through (λ r. list_of r q places) (c.list places) (d.list places);
      after = λ before. through (λ r. list_after r q before) (c.after before) (d.after before);
      words = λ w. through (λ r. words_of r q w) (c.words w) (d.words w);
    };
    fire = λ q s. through (λ r. fire_of r q s) (a.fire q s) (b.fire q s);
  }
