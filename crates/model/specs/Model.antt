-- The model of a world as a set of decisions (source 002, Definition 2 and section 2.4): closed under the rules that apply, and
-- least level by level. Document 01 narrows the source in one point: an unless decision is judged in the world of the offered set.
use Rattle.std.specs.Prelude.{ℕ, ◌<◌, ◌↔◌, ◌≡◌}
use Rattle.policy.specs.declared.Policy.{Policy}
use Rattle.policy.specs.Record.{head_of, level_of}
use Rattle.model.specs.Derivation.{Applies, Derivable}

module _ (p : Policy) (w : ℕ) where
  -- M is the stratified model
  pub record Model (M : ℕ → Type 0) : Type 1 where
    -- the head of every rule that applies is in M
    pub closed : (k : ℕ) → Applies p w M M k → M (head_of p k)
    -- at each level n, M lies in every set that agrees with it at lower levels and is closed under the rules of level n
    pub least : (n : ℕ) (X : ℕ → Type 0) → ((d : ℕ) → level_of p d < n → X d ↔ M d)
        → ((k : ℕ) → level_of p (head_of p k) ≡ n → Applies p w X M k → X (head_of p k))
        → (d : ℕ) → level_of p d ≡ n → M d → X d

  -- the decisions that have a derivation in the world are the stratified model, and the only one
  pub record IsModel : Type 1 where
    pub model : Model (Derivable p w)
    pub only : (M : ℕ → Type 0) → Model M → (d : ℕ) → M d ↔ Derivable p w d
