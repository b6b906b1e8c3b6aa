-- What is known of a choice: its set is enough and costs least, and where a set is enough there is a choice.
use Rattle.std.specs.Prelude.{ℕ, ◌≤◌, ◌<◌, ◌⊎◌, ◌≡◌, length, Some, Ok}
use Rattle.std.proofs.Common.{inl, inr, sym, ap, subst}
use Rattle.std.proofs.Math.Decide.{ℕ_discrete}
use Rattle.std.proofs.Math.Nat.{le_of_eq}
use native.Mathlib.Omega.{arith}
use Rattle.mask.specs.Family.{Before}
use Rattle.policy.specs.declared.Policy.{Policy}
use Rattle.policy.specs.declared.Query.{Query}
use Rattle.policy.specs.Questions.{Accepted}
use Rattle.weight.specs.Cost.{cost_of}
use Rattle.engine.specs.declared.Choice.{Choice}
use Rattle.engine.specs.Sets.{Enough, Best}
use Rattle.engine.specs.Calls.{slim_sets, choose_of}
use Rattle.engine.specs.Meaning.{Chooses}
use Rattle.engine.specs.Claim.{Holds}
use Rattle.engine.specs.Laws.{claim_holds}
use Rattle.engine.specs.Laws.Means.{choose_means}

module _ (p : Policy) (q : Query) where
  pub record Known (c : Choice) : Type 0 where
    pub enough : Enough p q c.mask
    pub least : (t : ℕ) → Enough p q t → cost_of p c.mask ≤ cost_of p t
    pub cost : c.cost ≡ cost_of p c.mask
    pub slim : c.slim ≡ length (slim_sets p q)

  -- no enough set costs less than the best
  best_least : (b : ℕ) → Best p q b → (t : ℕ) → Enough p q t → cost_of p b ≤ cost_of p t
  unfolding Before
  best_least b best t e =
      elim (ℕ_discrete t b) [ yes same ↦ le_of_eq (ap (cost_of p) (sym same)) | no ne ↦ go (best.least t ne e) ]
    where
      go : (cost_of p b < cost_of p t) ⊎ ((cost_of p b ≡ cost_of p t) × (b < t)) → cost_of p b ≤ cost_of p t
      go (inl h) = omega arith
      go (inr h) = omega arith

  pub known : (c : Choice) → choose_of p q ≡ Ok (Some c) → Known c
  known c e = let means : Chooses p q (Ok (Some c)) = subst (Chooses p q) e (choose_means p q) in record {
    enough = means.1.enough;
    least = best_least c.mask means.1;
    cost = means.3;
    slim = means.4.1;
  }

  pub chosen_where : Accepted p q → (s : ℕ) → Enough p q s → (c : Choice) × (choose_of p q ≡ Ok (Some c))
  chosen_where ok s e = go (claim_holds p q ok).chosen
    where
      go : ((t : ℕ) → Enough p q t → ⊥) ⊎ ((c : Choice) × (choose_of p q ≡ Ok (Some c)) × Holds p q c)
          → (c : Choice) × (choose_of p q ≡ Ok (Some c))
      go (inl f) = absurd (f s e)
      go (inr (c, h, holds)) = (c, h)
