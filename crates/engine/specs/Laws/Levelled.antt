-- Which levels are used makes no difference, so they fit: the same sets clear, and every answer but Fire's is the same.
use Rattle.std.specs.Prelude.{ℕ, Bool, ◌&&◌, List, ◌≡◌, T}
use Rattle.std.proofs.Math.Bool.{true}
use Rattle.std.proofs.Math.Path.{refl}
use Rattle.std.proofs.Common.{ap}
use Rattle.std.proofs.Math.Dec.{leb}
use Rattle.base.specs.Laws.Tests.{same, is_true, parts}
use Rattle.policy.specs.declared.Policy.{Policy}
use Rattle.policy.specs.declared.Query.{Query}
use Rattle.policy.specs.Record.{with_levels}
use Rattle.policy.specs.Questions.{others_in_range, in_range, lists_rise, levels_fit, weights_fit, query_in_range, questions, Accepted}
use Rattle.policy.specs.Laws.{Answers, answers, answered_with, accepted, first_no_zero}
use Rattle.model.specs.World.{world_of}
use Rattle.model.specs.Laws.Model.{same_model}
use Rattle.weight.specs.Cost.{cost_of}
use Rattle.strata.specs.declared.Levelling.{Levelling}
use Rattle.strata.specs.Levels.{found_levels}
use Rattle.strata.specs.Laws.Levels.{others_range, lowest_small, found_lowest, finds_levels}
use Rattle.words.specs.Models.{asking}
use Rattle.words.specs.Laws.Alike.{model_alike}
use Rattle.engine.specs.Calls.{offer_in_range, offer_questions, list_questions, enough, clears, slim_sets, judge_of, choose_of, check_of}
use Rattle.engine.specs.Calls.{list_of, list_after}
use Rattle.engine.specs.Words.{word_questions, words_of}
use Rattle.engine.specs.Same.{SameAnswers}
use Rattle.engine.specs.Laws.Alike.{slim_sets_alike, answer_alike}
use Rattle.engine.specs.Laws.Decide.{enough_derivable}
use Rattle.engine.specs.Laws.Words.{asking_accepted}

-- the questions of accepted policies are answered alike
questions_same : {p p' : Policy} {a b : Bool} → Answers p a → Answers p' b → (rest : Bool) → questions p rest ≡ questions p' rest
unfolding questions
questions_same {p} {p'} known known' rest = rw (
  is_true (in_range p) known.range,
  is_true (in_range p') known'.range,
  is_true (lists_rise p) known.rise,
  is_true (lists_rise p') known'.rise,
  is_true (levels_fit p) known.levels,
  is_true (levels_fit p') known'.levels,
  is_true (weights_fit p) known.weights,
  is_true (weights_fit p') known'.weights,
)

module _ (p : Policy) (level : List ℕ) (q : Query) (ok : Accepted p q) (fit : Accepted (with_levels p level) q) where
  p' : Policy
  p' = with_levels p level

  enough_same : (s : ℕ) → enough p q s ≡ enough p' q s
  unfolding p' world_of
  enough_same s = let model = same_model p level q ok fit (world_of p q.done s) q.want in
      same (enough p q s) (enough p' q s)
      (λ t. (enough_derivable p' q fit s).1 (model.0 ((enough_derivable p q ok s).0 t)))
      (λ t. (enough_derivable p q ok s).1 (model.1 ((enough_derivable p' q fit s).0 t)))

  clears_same : (s : ℕ) → clears p q s ≡ clears p' q s
  unfolding clears
  clears_same s = rw (enough_same s)

  cost_same : (s : ℕ) → cost_of p s ≡ cost_of p' s
  unfolding cost_of p'
  cost_same s = refl

  asked_same : (rest : Bool) → questions p rest ≡ questions p' rest
  unfolding p'
  asked_same = questions_same (accepted p q ok) (accepted (with_levels p level) q fit)

  slim_sets_same : slim_sets p q ≡ slim_sets p' q
  unfolding p'
  slim_sets_same = slim_sets_alike p p' q refl clears_same

  judge_same : (s : ℕ) → judge_of p q s ≡ judge_of p' q s
  unfolding judge_of offer_questions query_in_range p'
  judge_same s = rw (asked_same (offer_in_range p q s), enough_same s, cost_same s)

  choose_same : choose_of p q ≡ choose_of p' q
  unfolding choose_of query_in_range p'
  choose_same = rw (asked_same (query_in_range p q), answer_alike p p' q refl clears_same cost_same)

  list_same : (places : ℕ) → list_of p q places ≡ list_of p' q places
  unfolding list_of list_questions query_in_range p'
  list_same places = rw (asked_same (query_in_range p q), slim_sets_same)

  after_same : (before : List ℕ) → list_after p q before ≡ list_after p' q before
  unfolding list_after list_questions query_in_range p'
  after_same before = rw (asked_same (query_in_range p q), slim_sets_same)

module _ (p : Policy) (level : List ℕ) (q : Query) (ok : Accepted p q) (fit : Accepted (with_levels p level) q) where
  words_same : (w : ℕ) → words_of p q w ≡ words_of (with_levels p level) q w
  unfolding words_of word_questions query_in_range p'
  words_same w = rw (
    asked_same p level q ok fit (query_in_range p q && leb w 1023),
    model_alike p (with_levels p level) q w refl refl (λ d s h.
        clears_same p level (asking q d) (asking_accepted p q ok d h) (asking_accepted (with_levels p level) q fit d h) s),
  )

  pub same_answers : SameAnswers p (with_levels p level) q
  unfolding p'
  same_answers = record {
    judge = judge_same p level q ok fit;
    choose = choose_same p level q ok fit;
    list = list_same p level q ok fit;
    after = after_same p level q ok fit;
    words = words_same;
  }

-- for a policy whose questions are answered yes levels are found
pub found_for : (p : Policy) {rest : Bool} → Answers p rest → (found_levels p).refusal ≡ 0
unfolding in_range
found_for p known =
    let range = known.range in
    let others : T (others_in_range p) = search parts in
    let small = lowest_small p (others_range p others) p.level (search parts) known.levels in
    ap (λ (r : Levelling). r.refusal)
    (found_lowest p (is_true (others_in_range p) others) (is_true (lists_rise p) known.rise) (is_true _ small))

-- with them in place of its own it is accepted, and answered alike
module _ (p : Policy) (q : Query) (ok : Accepted p q) where
  abbrev pub found : Policy
  found = with_levels p (found_levels p).level

  pub found_accepted : Accepted found q
  unfolding Accepted check_of query_in_range
  found_accepted =
      let known = accepted p q ok in
      let check = ((finds_levels p).found (found_for p known)).accepted known.weights in
      first_no_zero (questions found (query_in_range p q)) (answered_with (answers found true check) (query_in_range p q) known.given)

  pub found_alike : SameAnswers p found q
  found_alike = same_answers p (found_levels p).level q ok found_accepted
