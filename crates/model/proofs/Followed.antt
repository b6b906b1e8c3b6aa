-- What a loop shows that follows the also masks of a set, step by step, until a step adds no action.
use Prim.Native.Nat.{ℕ, ◌+◌, ◌≤◌, ◌<◌, zero-le}
use native.Mathlib.Decide.{le_ind}
use native.Mathlib.Numerals.{add-one}
use native.Mathlib.Omega.{arith}
use mathlib.Core.Path.{◌≡◌, ◌∙◌}
use mathlib.Core.List.{List}
use lib.Bits.{bit_or}
use Rattle.policy.specs.declared.Action.{Action}
use Rattle.model.specs.World.{alsoes, followed}

-- k of the n steps are done
pub record Following (action : List Action) (m n world k : ℕ) : Type 0 where
  pub within : k ≤ n
  pub so_far : world ≡ followed action n m k

pub none_followed : {action : List Action} {m n world : ℕ} → world ≡ m → Following action m n world 0
unfolding followed
none_followed e = record { within = zero-le; so_far = e }

module _ {action : List Action} {m n world k : ℕ} (f : Following action m n world k) where
  -- one step more
  pub more_followed : {next : ℕ} → k < n → next ≡ bit_or world (alsoes action n world) → Following action m n next (k + 1)
  unfolding followed
  more_followed h e = record { within = omega arith; so_far = rw add-one (e ∙ rw f.so_far) }

  -- no step is left
  pub all_followed : n ≤ k → world ≡ followed action n m n
  all_followed h =
      let last : k ≡ n = omega (arith, f.within) in
      f.so_far ∙ rw last

  -- a step adds nothing, and so no later one does
  pub ended : world ≡ bit_or world (alsoes action n world) → world ≡ followed action n m n
  unfolding followed
  ended e = le_ind (λ (j : ℕ). world ≡ followed action n m j) f.so_far (λ j h same. e ∙ rw (← same)) n f.within
