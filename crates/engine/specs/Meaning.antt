-- What each case of an answer means, in document 01's terms: the calls promise it of what they return.
use Rattle.std.specs.Prelude.{ℕ, ◌≤◌, ◌<◌, List, ◌++◌, ◌↔◌, ◌≢◌, ◌≡◌, T, length, get_or, take, drop, Some, None, Result, Ok, Err}
use Rattle.policy.specs.declared.Policy.{Policy}
use Rattle.policy.specs.declared.Query.{Query}
use Rattle.policy.specs.declared.Queries.{Queries}
use Rattle.policy.specs.Record.{most_decisions, most_queries, zero_query}
use Rattle.policy.specs.Questions.{Question, first_no, query_questions, Accepted}
use Rattle.model.specs.World.{world_of}
use Rattle.model.specs.Derivation.{Derives}
use Rattle.weight.specs.Cost.{cost_of}
use Rattle.policy.specs.declared.refusal.Refusal.{Refusal}
use Rattle.policy.specs.Refusal.{number_of}
use Rattle.engine.specs.declared.Firing.{Firing}
use Rattle.engine.specs.Sets.{Enough, Best, BestKeep, Lists}
use Rattle.engine.specs.Calls.{Verdict, Answer, Listing, check_of, offer_questions, list_questions, slim_sets}

-- n is the number of the first question answered no
abbrev pub Refuses : List Question → ℕ → Type 0
Refuses qs n = (first_no qs ≡ n) × (n ≢ 0)

-- each question is answered yes
abbrev pub AllYes : List Question → Type 0
AllYes qs = first_no qs ≡ 0

-- what is said of a policy with its queries: accepted exactly where it is so by itself and with each of at most 64 queries
abbrev pub Checks : Policy → Queries → Result (Unit {0}) Refusal → Type 0
Checks p qs r =
    (r ≡ Ok tt) ↔ ((check_of p ≡ 0) × (qs.count ≤ most_queries) × ((i : ℕ) → i < qs.count → Accepted p (get_or qs.at i zero_query)))

module _ (p : Policy) (q : Query) where
  -- there are n slim sets, and `slim_sets` lists them
  abbrev pub SlimCount : ℕ → Type 0
  SlimCount n = Lists p q (slim_sets p q) × (n ≡ length (slim_sets p q))

  -- what Judge says of the offered set s
  abbrev pub Judges : ℕ → Verdict → Type 0
  Judges s (Err e) = Refuses (offer_questions p q s) (number_of e)
  Judges s (Ok j) = AllYes (offer_questions p q s) × (T j.enough ↔ Enough p q s) × (j.cost ≡ cost_of p s)

  -- the entries below a firing's count are a derivation of want in the world of s
  abbrev pub Shows : ℕ → Firing → Type 0
  Shows s r = Derives p (world_of p q.done s) q.want (take r.count r.rules)

  -- what Fire says of the offered set s
  pub record Fires (s : ℕ) (r : Firing) : Type 0 where
    -- refusal is the number of the first question answered no, or 0, and no rule is fired beside a number
    pub asked : r.refusal ≡ first_no (offer_questions p q s)
    pub refused : r.refusal ≢ 0 → r.count ≡ 0
    -- and else the rules fired show that s is enough, and are none where it is not
    pub shows : r.refusal ≡ 0 → Enough p q s → Shows s r
    pub none : ¬ Enough p q s → r.count ≡ 0
    -- there are 128 places, and those past the count are 0
    pub few : r.count ≤ most_decisions
    pub places : length r.rules ≡ most_decisions
    pub past : (i : ℕ) → r.count ≤ i → get_or r.rules i 0 ≡ 0

  -- what Choose answers
  abbrev pub Chooses : Answer → Type 0
  Chooses (Err e) = Refuses (query_questions p q) (number_of e)
  Chooses (Ok None) = Accepted p q × ((s : ℕ) → Enough p q s → ⊥)
  Chooses (Ok (Some c)) =
      Accepted p q × Best p q c.mask × BestKeep p q c.mask c.keep × (c.cost ≡ cost_of p c.mask) × SlimCount c.slim

  -- what List answers, and what the lent list holds before and after
  abbrev pub ListsSlim : List ℕ → List ℕ → Listing → Type 0
  ListsSlim before after (Err e) = Refuses (list_questions p q (length before)) (number_of e) × (after ≡ before)
  ListsSlim before after (Ok n) =
      AllYes (list_questions p q (length before)) × SlimCount n × (after ≡ slim_sets p q ++ drop n before)
