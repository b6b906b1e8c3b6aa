-- What a repriced action can do (document 02, F-5): where the weight of one action rises by k, none turns into none, a choice into a
-- choice, the least cost rises by 0 to k, and the slim sets are the same.
use Rattle.std.specs.Prelude.{ℕ, ◌+◌, ◌≤◌, List, ◌↔◌, ◌⊎◌, ◌≡◌, Some, None, Ok}
use Rattle.policy.specs.declared.Policy.{Policy}
use Rattle.policy.specs.declared.Query.{Query}
use Rattle.policy.specs.Record.{weight_of, Agree}
use Rattle.policy.specs.Questions.{Accepted}
use Rattle.engine.specs.declared.Choice.{Choice}
use Rattle.engine.specs.Sets.{Enough, Slim}
use Rattle.engine.specs.Calls.{choose_of, list_of, list_after}
use Rattle.alike.specs.Comparable.{reweighed, Comparable}

-- the policy with the weight of action a raised by k
abbrev pub raised : Policy → ℕ → ℕ → Policy
raised p a k = reweighed p a (weight_of p a + k)

-- n is m raised by 0 to k
pub record Rises (k m n : ℕ) : Type 0 where
  pub low : m ≤ n
  pub high : n ≤ m + k

-- of two choices the cost rises by 0 to k, and the number of slim sets is the same
pub record Moves (k : ℕ) (c c' : Choice) : Type 0 where
  pub cost : Rises k c.cost c'.cost
  pub slim : c.slim ≡ c'.slim

module _ (p p' : Policy) (q : Query) where
  -- the same sets are enough, and the same are slim: List returns the same number, and writes the same list
  pub record SameSets : Type 0 where
    pub enough : (s : ℕ) → Enough p q s ↔ Enough p' q s
    pub slim : (s : ℕ) → Slim p q s ↔ Slim p' q s
    pub number : (places : ℕ) → list_of p q places ≡ list_of p' q places
    pub list : (before : List ℕ) → list_after p q before ≡ list_after p' q before

  pub record Reprices (k : ℕ) : Type 0 where
    pub sets : SameSets
    -- none turns into none, and only none does
    pub none : (choose_of p q ≡ Ok None) ↔ (choose_of p' q ≡ Ok None)
    -- and so a choice into a choice, whose cost rises by 0 to k: from the first policy to the second, and back
    pub chosen : (c : Choice) → choose_of p q ≡ Ok (Some c) → (c' : Choice) × (choose_of p' q ≡ Ok (Some c')) × Moves k c c'
    pub chosen_back : (c' : Choice) → choose_of p' q ≡ Ok (Some c') → (c : Choice) × (choose_of p q ≡ Ok (Some c)) × Moves k c c'

-- the request whole (`repriced_action` in Laws)
pub record RepricedAction : Type 0 where
  -- for every two accepted policies of which the second is the first with the weight of an action raised by k, whatever stands past
  -- their counts
  pub raises : (p p' : Policy) (q : Query) (a k : ℕ) → Agree (raised p a k) p' → Accepted p q → Accepted p' q → Reprices p p' q k
  -- and of every two comparable policies one is the other with a weight raised
  pub either : (p p' : Policy) → Comparable p p' → (a : ℕ) × (k : ℕ) × (Agree (raised p a k) p' ⊎ Agree (raised p' a k) p)
