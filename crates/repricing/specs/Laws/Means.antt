-- What the calls return means what document 02 says of it.
use Prim.Native.Nat.{ℕ, zero, suc}
use Rattle.std.specs.Prelude.{Bool, true, false, ◌≡◌, cond, length, Some, None, Ok, Err}
use Rattle.std.proofs.Common.{inl, sym, ◌∙◌}
use Rattle.std.proofs.Math.Logic.{inr}
use Rattle.std.proofs.Math.Path.{refl, ap, subst}
use Rattle.base.specs.Laws.Tests.{passes, is_true, not_both}
use Rattle.policy.specs.declared.Policy.{Policy}
use Rattle.policy.specs.declared.Query.{Query}
use Rattle.policy.specs.Questions.{first_no, query_questions, Accepted}
use Rattle.policy.specs.Refusal.{number_of, refusal_of, refuse}
use Rattle.engine.specs.Calls.{Answer, answer, best, slim_sets, refused_or, choose_of}
use Rattle.engine.specs.Meaning.{Chooses, Refuses}
use Rattle.engine.specs.Laws.Means.{choose_means}
use Rattle.alike.specs.Comparable.{comparable, Comparable}
use Rattle.alike.specs.Laws.{comparable_iff}
use Rattle.repricing.specs.Reprices.{Reprices}
use Rattle.repricing.specs.Call.{Repriced, Pays, Moved, Effect, Reports, price_in, price_of, prices, reprice_of}
use Rattle.repricing.specs.Laws.Effect.{reprices}
use Rattle.repricing.specs.Laws.Either.{raised_either}

-- a query that is refused is so by the number of the first question answered no
refuses : (p : Policy) (q : Query) (n : ℕ) → first_no (query_questions p q) ≡ suc n
    → Refuses (query_questions p q) (number_of (refusal_of (suc n)))
unfolding choose_of refused_or
refuses p q n e =
    subst (Chooses p q) (ap (λ (k : ℕ). refused_or k refuse (answer p q (length (slim_sets p q)) (best p q))) e) (choose_means p q)

pub price_means : (p : Policy) (q : Query) → Pays p q (price_of p q)
unfolding price_of price_in Accepted
price_means p q = go (choose_of p q) (choose_means p q)
  where
    go : (x : Answer) → Chooses p q x → Pays p q (price_in x)
    go (Err e) (first, ne) = λ ok. absurd (ne (sym first ∙ ok))
    go (Ok None) (ok, h) = λ ok. h
    go (Ok (Some c)) (ok, best, keep, cost, slim) = (ok, (c.mask, best, cost))

-- the prices by both move as the choices do
moved : (p p' : Policy) (q : Query) (k : ℕ) → Accepted p q → Reprices p p' q k → Moved k (price_of p q) (price_of p' q)
unfolding price_of price_in Accepted
moved p p' q k ok r = go (choose_of p q) refl (choose_means p q)
  where
    go : (x : Answer) → choose_of p q ≡ x → Chooses p q x → Moved k (price_in x) (price_in (choose_of p' q))
    go (Err n) e (first, ne) = absurd (ne (sym first ∙ ok))
    go (Ok None) e h = rw (r.none.0 e) tt
    go (Ok (Some c)) e h = let (c', e', m) = r.chosen c e in rw e' m.cost

module _ (p p' : Policy) (q : Query) where
  effect : Accepted p q → Accepted p' q → Comparable p p' → Effect p p' q (prices p p' q)
  effect ok ok' c = record {
    up = λ a k e. moved p p' q k ok (reprices p p' q a k e ok ok');
    down = λ a k e. moved p' p q k ok' (reprices p' p q a k e ok' ok);
    either = raised_either p p' c;
  }

  abbrev tested : Bool → Repriced
  tested b = Ok (cond b (Some (prices p p' q)) None)

  compared : Accepted p q → Accepted p' q → (b : Bool) → comparable p p' ≡ b → Reports p p' q (tested b)
  compared ok ok' true e =
      (ok, ok', price_means p q, price_means p' q, effect ok ok' ((comparable_iff p p').0 (passes (comparable p p') e)))
  compared ok ok' false e = (ok, ok', λ c. not_both (is_true (comparable p p') ((comparable_iff p p').1 c)) e)

  pub reprice_means : Reports p p' q (reprice_of p p' q)
  unfolding reprice_of refused_or Accepted
  reprice_means = first (first_no (query_questions p q)) refl
    where
      second : Accepted p q → (n : ℕ) → first_no (query_questions p' q) ≡ n
          → Reports p p' q (refused_or n refuse (tested (comparable p p')))
      second ok zero e = compared ok e (comparable p p') refl
      second ok (suc n) e = inr (ok, refuses p' q n e)

      first : (n : ℕ) → first_no (query_questions p q) ≡ n → Reports p p' q
          (refused_or n refuse (refused_or (first_no (query_questions p' q)) refuse (tested (comparable p p'))))
      first zero e = second e (first_no (query_questions p' q)) refl
      first (suc n) e = inl (refuses p q n e)
