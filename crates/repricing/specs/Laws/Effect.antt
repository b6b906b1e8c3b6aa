-- What a repriced action can do: `Reprices` holds of every two accepted policies, the second of which is the first with a weight
-- raised, whatever stands past their counts.
use Rattle.std.specs.Prelude.{ℕ, ◌+◌, List, [], ◌∷◌, ◌↔◌, ◌≡◌, T, leb, length, Some, None, Ok, Err}
use Rattle.std.proofs.Math.Path.{refl, subst}
use Rattle.std.proofs.Common.{sym, ap, ◌∙◌, arith}
use Rattle.policy.specs.declared.Policy.{Policy}
use Rattle.policy.specs.declared.Query.{Query}
use Rattle.policy.specs.Record.{weight_of, Agree}
use Rattle.policy.specs.Questions.{Question, first_no, query_in_range, query_questions, Accepted}
use Rattle.policy.specs.Laws.{first_no_append, all_yes_lem}
use Rattle.weight.specs.Cost.{cost_of}
use Rattle.engine.specs.declared.Choice.{Choice}
use Rattle.engine.specs.Sets.{Enough, Slim}
use Rattle.engine.specs.Calls.{Answer, clears, slim_sets, list_questions, choose_of, list_of, list_after}
use Rattle.engine.specs.Meaning.{Judges, Chooses}
use Rattle.engine.specs.Same.{SameAnswers}
use Rattle.engine.specs.Laws.{claim_holds}
use Rattle.engine.specs.Laws.Alike.{slim_sets_alike}
use Rattle.engine.specs.Laws.Decide.{clears_iff}
use Rattle.engine.specs.Laws.Ignored.{ignored}
use Rattle.engine.specs.Laws.Means.{judge_means, choose_means}
use Rattle.repricing.specs.Reprices.{raised, Rises, Moves, SameSets, Reprices}
use Rattle.repricing.specs.Laws.Reweighed.{also_same}
use Rattle.repricing.specs.Laws.Costs.{cost_rises}
use Rattle.repricing.specs.Laws.Unmoved.{clears_with}
use Rattle.repricing.specs.Laws.Choices.{Known, known, chosen_where}

-- where the same sets are enough, the same are slim
slim_by : (p p' : Policy) (q : Query) → ((s : ℕ) → Enough p q s ↔ Enough p' q s) → (s : ℕ) → Slim p q s ↔ Slim p' q s
slim_by p p' q same s = (
  λ h. record { enough = (same s).0 h.enough; least = λ t sub ne e. h.least t sub ne ((same t).1 e) },
  λ h. record { enough = (same s).1 h.enough; least = λ t sub ne e. h.least t sub ne ((same t).0 e) },
)

-- the question that List puts last, where there are so many slim sets
abbrev eight : ℕ → ℕ → List Question
eight slim places = record { number = 8; yes = leb slim places } ∷ []

-- it is the only one that counts where the query is accepted
asked : (p : Policy) (q : Query) → Accepted p q → (places : ℕ)
    → first_no (list_questions p q places) ≡ first_no (eight (length (slim_sets p q)) places)
unfolding list_questions Accepted
asked p q ok places = first_no_append (query_questions p q) _ (all_yes_lem p (query_in_range p q) ok)

-- ---- two policies with as many actions, the same sets that clear, and costs that rise by 0 to k

module _ (p p' : Policy) (q : Query) (k : ℕ) (ok : Accepted p q) (ok' : Accepted p' q) (actions : p.actions ≡ p'.actions)
    (clear : (s : ℕ) → clears p q s ≡ clears p' q s) (costs : (s : ℕ) → Rises k (cost_of p s) (cost_of p' s)) where
  enough_same : (s : ℕ) → Enough p q s ↔ Enough p' q s
  enough_same s = (
    λ e. (clears_iff p' q ok' s (rw actions at e.offered.set)).0 (subst T (clear s) ((clears_iff p q ok s e.offered.set).1 e)),
    λ e. (clears_iff p q ok s (rw actions e.offered.set)).0 (subst T (sym (clear s)) ((clears_iff p' q ok' s e.offered.set).1 e)),
  )

  slims_same : slim_sets p q ≡ slim_sets p' q
  slims_same = slim_sets_alike p p' q actions clear

  asked_same : (places : ℕ) → first_no (list_questions p q places) ≡ first_no (list_questions p' q places)
  asked_same places =
      asked p q ok places ∙ ap (λ (l : List ℕ). first_no (eight (length l) places)) slims_same ∙ sym (asked p' q ok' places)

  sets : SameSets p p' q
  unfolding list_of list_after
  sets = record {
    enough = enough_same;
    slim = slim_by p p' q enough_same;
    number = λ places. rw (asked_same places, slims_same);
    list = λ before. rw (asked_same (length before), slims_same);
  }

  moves : (c c' : Choice) → Known p q c → Known p' q c' → Moves k c c'
  moves c c' h h' = record {
    cost = record {
      low = omega (arith, h.least c'.mask ((enough_same c'.mask).1 h'.enough), (costs c'.mask).low);
      high = omega (arith, h'.least c.mask ((enough_same c.mask).0 h.enough), (costs c.mask).high);
    };
    slim = h.slim ∙ ap length slims_same ∙ sym h'.slim;
  }

  reprices_by : Reprices p p' q k
  reprices_by = record {
    sets = sets;
    none = (
      λ e. (claim_holds p' q ok').none_exactly.1 (λ s t. (claim_holds p q ok).none_exactly.0 e s ((enough_same s).1 t)),
      λ e. (claim_holds p q ok).none_exactly.1 (λ s t. (claim_holds p' q ok').none_exactly.0 e s ((enough_same s).0 t)),
    );
    chosen = λ c e.
        let h = known p q c e in
        let (c', e') = chosen_where p' q ok' c.mask ((enough_same c.mask).0 h.enough) in
        (c', e', moves c c' h (known p' q c' e'));
    chosen_back = λ c' e'.
        let h' = known p' q c' e' in
        let (c, e) = chosen_where p q ok c'.mask ((enough_same c'.mask).1 h'.enough) in
        (c, e, moves c c' (known p q c e) h');
  }

-- ---- records that agree below their counts

module _ (p p' : Policy) (agree : Agree p p') (q : Query) where
  same : SameAnswers p p' q
  same = (ignored p p' agree).answers q

  -- Choose refuses both by the same number
  agree_accepted : Accepted p' q → Accepted p q
  unfolding Accepted
  agree_accepted ok' = go (choose_of p q) refl (choose_means p q)
    where
      go : (x : Answer) → choose_of p q ≡ x → Chooses p q x → Accepted p q
      go (Err n) e (first, ne) =
          let there : Chooses p' q (Err n) = subst (Chooses p' q) (sym same.choose ∙ e) (choose_means p' q) in
          absurd (ne (sym there.0 ∙ ok'))
      go (Ok None) e h = h.0
      go (Ok (Some c)) e h = h.0

  -- Judge says the same of every offered set
  agree_enough : Accepted p q → (s : ℕ) → Enough p q s → Enough p' q s
  agree_enough ok s h =
      let (b, e, means) = (claim_holds p q ok).judges s h.offered in
      let there = subst (Judges p' q s) (sym (same.judge s) ∙ e) (judge_means p' q s) in
      there.1.0 (means.1 h)

-- what a policy's repricing is, it is to any that agrees with the repriced one
module _ (p p'' p' : Policy) (q : Query) (k : ℕ) (agree : Agree p'' p') (ok'' : Accepted p'' q) (ok' : Accepted p' q)
    (r : Reprices p p'' q k) where
  enough_on : (s : ℕ) → Enough p q s ↔ Enough p' q s
  enough_on s = (
    λ e. agree_enough p'' p' agree q ok'' s ((r.sets.enough s).0 e),
    λ e. (r.sets.enough s).1 (agree_enough p' p'' (sym agree) q ok' s e),
  )

  reprices_on : Reprices p p' q k
  reprices_on = let alike = same p'' p' agree q in record {
    sets = record {
      enough = enough_on;
      slim = slim_by p p' q enough_on;
      number = λ places. r.sets.number places ∙ alike.list places;
      list = λ before. r.sets.list before ∙ alike.after before;
    };
    none = (λ e. sym alike.choose ∙ r.none.0 e, λ e. r.none.1 (alike.choose ∙ e));
    chosen = λ c e. let (c', e', m) = r.chosen c e in (c', sym alike.choose ∙ e', m);
    chosen_back = λ c' e'. r.chosen_back c' (alike.choose ∙ e');
  }

-- the weight of action a rises by k
pub reprices : (p p' : Policy) (q : Query) (a k : ℕ) → Agree (raised p a k) p' → Accepted p q → Accepted p' q → Reprices p p' q k
reprices p p' q a k agree ok ok' =
    let ok'' = agree_accepted (raised p a k) p' agree q ok' in
    reprices_on p (raised p a k) p' q k agree ok'' ok'
    (reprices_by p (raised p a k) q k ok ok'' refl
    (λ s. sym (clears_with p (raised p a k).action (also_same p.action a (weight_of p a + k)) q s)) (cost_rises p a k))
