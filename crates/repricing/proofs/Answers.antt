-- What the calls answer, where they are refused and where they are not.
use Rattle.std.specs.Prelude.{true, false, ◌≡◌, replicate, Some, None, Ok, Err}
use Rattle.std.proofs.Common.{sym, ap, ◌∙◌, subst}
use Rattle.std.proofs.Math.Bool.{and-true}
use Rattle.policy.specs.declared.Policy.{Policy}
use Rattle.policy.specs.declared.Query.{Query}
use Rattle.policy.specs.declared.refusal.Refusal.{Refusal}
use Rattle.policy.specs.Questions.{first_no, questions, query_in_range, queries_in_range, query_questions, check_record_of}
use Rattle.policy.specs.Refusal.{outcome}
use Rattle.policy.specs.Laws.Refusals.{outcome_ok, outcome_refuses}
use Rattle.engine.specs.Calls.{Answer, choose_of}
use Rattle.engine.specs.Laws.Refusals.{answered}
use Rattle.alike.specs.Comparable.{comparable}
use Rattle.repricing.specs.declared.Prices.{Prices}
use Rattle.repricing.specs.Call.{Repriced, Pays, Reports, price_in, price_of, prices, reprice_of}
use Rattle.repricing.specs.Laws.Means.{price_means, reprice_means}

-- the questions of a record with one query are those of the policy with it
pub one_query : (p : Policy) (q : Query) → check_record_of p (record { count = 1; at = replicate 64 q }) ≡ first_no (query_questions p q)
unfolding check_record_of queries_in_range
one_query p q = ap (λ b. first_no (questions p b)) (and-true (query_in_range p q))

-- the cost in what Choose answers is what the call promises
pub priced : (p : Policy) (q : Query) {a : Answer} → a ≡ choose_of p q
    → record { value : price_in a ≡ price_of p q; pays : Pays p q (price_in a) }
unfolding price_of
priced p q e = let same = ap price_in e in record { value = same; pays = subst (Pays p q) (sym same) (price_means p q) }

module _ (p p' : Policy) (q : Query) where
  -- what the contract of Reprice says of its answer
  abbrev Told : Repriced → Type 0
  Told r = record { value : r ≡ reprice_of p p' q; reports : Reports p p' q r }

  -- what equals the answer's definition means what that means
  means : {r : Repriced} → r ≡ reprice_of p p' q → Told r
  means e = record { value = e; reports = subst (Reports p p' q) (sym e) (reprice_means p p' q) }

  -- the first policy is refused
  pub first_refused : {e : Refusal} → Err e ≡ outcome (first_no (query_questions p q)) → Told (Err e)
  unfolding reprice_of
  first_refused e = means (outcome_refuses _ _ e)

  module _ {u : Unit {0}} (ok : Ok u ≡ outcome (first_no (query_questions p q))) where
    -- the second is
    pub second_refused : {e : Refusal} → Err e ≡ outcome (first_no (query_questions p' q)) → Told (Err e)
    unfolding reprice_of
    second_refused e = means (outcome_refuses _ _ e ∙ sym (answered _ _ _ (outcome_ok _ ok)))

    module _ {u' : Unit {0}} (ok' : Ok u' ≡ outcome (first_no (query_questions p' q))) where
      -- both are accepted, and not comparable; or comparable
      pub not_comparable : comparable p p' ≡ false → Told (Ok None)
      unfolding reprice_of
      not_comparable e = means (rw e (sym (answered _ _ _ (outcome_ok _ ok) ∙ answered _ _ _ (outcome_ok _ ok'))))

      pub compared : {c : Prices} → comparable p p' ≡ true → c ≡ prices p p' q → Told (Ok (Some c))
      unfolding reprice_of
      compared e same = means (rw (e, same) (sym (answered _ _ _ (outcome_ok _ ok) ∙ answered _ _ _ (outcome_ok _ ok'))))
