-- What the calls return, and what each case of an answer means in document 02's terms.
use Rattle.std.specs.Prelude.{ℕ, cond, ◌⊎◌, ◌≡◌, Option, Some, None, Result, Ok, Err}
use Rattle.policy.specs.declared.Policy.{Policy}
use Rattle.policy.specs.declared.Query.{Query}
use Rattle.policy.specs.Record.{Agree}
use Rattle.policy.specs.Questions.{first_no, query_questions, Accepted}
use Rattle.policy.specs.declared.refusal.Refusal.{Refusal}
use Rattle.policy.specs.Refusal.{number_of, refuse}
use Rattle.weight.specs.Cost.{cost_of}
use Rattle.engine.specs.Sets.{Enough, Best}
use Rattle.engine.specs.Calls.{Answer, refused_or, choose_of}
use Rattle.engine.specs.Meaning.{Refuses}
use Rattle.alike.specs.Comparable.{comparable, Comparable}
use Rattle.repricing.specs.declared.Prices.{Prices}
use Rattle.repricing.specs.Reprices.{raised, Rises}

-- the least cost, or none
abbrev pub Price : Type 0
Price = Option ℕ

-- what Reprice answers: a refusal, none where the policies are not comparable, or both costs
abbrev pub Repriced : Type 0
Repriced = Result (Option Prices) Refusal

-- what a price says of an accepted query: no set is enough, or this is the cost of the best set
abbrev pub Pays : Policy → Query → Price → Type 0
Pays p q None = Accepted p q → (s : ℕ) → Enough p q s → ⊥
Pays p q (Some n) = Accepted p q × ((s : ℕ) × Best p q s × (n ≡ cost_of p s))

-- none turns into none, and a cost into a cost that is higher by 0 to k
abbrev pub Moved : ℕ → Price → Price → Type 0
Moved k None None = Unit {0}
Moved k None (Some n) = ⊥
Moved k (Some m) None = ⊥
Moved k (Some m) (Some n) = Rises k m n

module _ (p p' : Policy) (q : Query) where
  -- how the two costs lie to each other: where a weight rises by k from the first policy to the second, none turns into none and a
  -- cost rises by 0 to k; where it falls by k, it falls by 0 to k; and one of the two is so
  pub record Effect (c : Prices) : Type 0 where
    pub up : (a k : ℕ) → Agree (raised p a k) p' → Moved k c.before c.after
    pub down : (a k : ℕ) → Agree (raised p' a k) p → Moved k c.after c.before
    pub either : (a : ℕ) × (k : ℕ) × (Agree (raised p a k) p' ⊎ Agree (raised p' a k) p)

  -- what each case of an answer says: the first question answered no, of the first policy or else of the second; that both are
  -- accepted, and not comparable; or the least costs by both, and how they move
  abbrev pub Reports : Repriced → Type 0
  Reports (Err e) =
      Refuses (query_questions p q) (number_of e) ⊎ (Accepted p q × Refuses (query_questions p' q) (number_of e))
  Reports (Ok None) = Accepted p q × Accepted p' q × (¬ Comparable p p')
  Reports (Ok (Some c)) = Accepted p q × Accepted p' q × Pays p q c.before × Pays p' q c.after × Effect c

-- ---- how it is computed, which need not be believed: `Pays` and `Reports` say all of it

-- the cost that Choose answers with
unfoldable pub price_in : Answer → Price
price_in (Err e) = None
price_in (Ok None) = None
price_in (Ok (Some c)) = Some c.cost

unfoldable pub price_of : Policy → Query → Price
price_of p q = price_in (choose_of p q)

module _ (p p' : Policy) (q : Query) where
  abbrev pub prices : Prices
  prices = record { before = price_of p q; after = price_of p' q }

  -- questions 3 to 6 are put to the first policy with the query, then to the second with it
  unfoldable pub reprice_of : Repriced
  reprice_of = refused_or (first_no (query_questions p q)) refuse
      (refused_or (first_no (query_questions p' q)) refuse (Ok (cond (comparable p p') (Some prices) None)))
