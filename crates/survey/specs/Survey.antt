-- What a survey goes over, and what it has found so far.
use Rattle.std.specs.Prelude.{ℕ, suc, ◌+◌, ◌^◌, ◌<◌, Bool, cond, ◌&&◌, ◌⊎◌, ◌≡◌, Option, None, Some, ltb, length}
use Rattle.std.proofs.Math.Option.{Option as Best, none, some}
use Rattle.mask.specs.Family.{Before, among, minimal, lightest}
use Rattle.policy.specs.declared.Policy.{Policy}
use Rattle.policy.specs.declared.Query.{Query}
use Rattle.model.specs.Clears.{clears}
use Rattle.weight.specs.Cost.{cost_of}
use Rattle.survey.specs.declared.Found.{Found}

-- the sets of the policy's actions that clear
unfoldable pub family : Policy → Query → ℕ → Bool
family p q s = ltb s (2 ^ p.actions) && clears p q s

-- what stands for a number of slim sets and the best of them
pub data SoFar (cost : ℕ → ℕ) : Option Found → ℕ → Best ℕ → Type 0 where
  nothing : SoFar cost None 0 none
  named : (s n : ℕ) → SoFar cost (Some (record { mask = s; cost = cost s; slim = suc n })) (suc n) (some s)

-- the number of slim sets found
abbrev pub slims : Option Found → ℕ
slims None = 0
slims (Some found) = found.slim

-- the set that is named, and its cost
abbrev pub Names : Found → ℕ → ℕ → Type 0
Names r s c = (r.mask ≡ s) × (r.cost ≡ c)

-- r stands for one slim set more than `found` does: the set s, which costs c and has a higher number. The first is named; after
-- that, of the one named before and s, the one that comes before the other in the order of sets.
pub record OneMore (found : Option Found) (r : Found) (s c : ℕ) : Type 0 where
  pub slim : r.slim ≡ slims found + 1
  pub first : found ≡ None → Names r s c
  pub before : (cost : ℕ → ℕ) (b : Found) → found ≡ Some b → b.mask < s → cost b.mask ≡ b.cost → cost s ≡ c
      → (Names r b.mask b.cost × Before cost b.mask s) ⊎ (Names r s c × Before cost s b.mask)

-- how it is computed: the set s takes the place of the one named before where it costs less
abbrev pub with_one : Found → ℕ → ℕ → Found
with_one found s c =
    record { mask = cond (ltb c found.cost) s found.mask; cost = cond (ltb c found.cost) c found.cost; slim = found.slim + 1 }

-- and the first takes no one's place
abbrev pub one_more : Option Found → ℕ → ℕ → Found
one_more None s c = record { mask = s; cost = c; slim = 1 }
one_more (Some found) s c = with_one found s c

-- what is found among those of the first n sets that the test takes
pub record Weighed (cost : ℕ → ℕ) (takes : ℕ → Bool) (n : ℕ) (found : Option Found) : Type 0 where
  pub sofar : SoFar cost found (length (among takes n)) (lightest takes cost n)

-- what is found among the slim ones of the first n sets
abbrev pub Surveyed : Policy → Query → ℕ → Option Found → Type 0
Surveyed p q n found = Weighed (cost_of p) (minimal (family p q)) n found
