-- Loops that build a word in steps.
use Prim.Native.Nat.{ℕ, ◌+◌, ◌≤◌, ◌<◌, zero-le}
use mathlib.Core.Bool.{Bool, true, false, cond}
use mathlib.Core.Path.{◌≡◌, ◌∙◌}
use native.Mathlib.Numerals.{add-one}
use native.Mathlib.Omega.{arith}
use Rattle.columns.specs.Sets.{picked}

-- a choice whose test is known
pub cond_yes : {b : Bool} {x : ℕ} (y : ℕ) → b ≡ true → x ≡ cond b x y
cond_yes y e = rw e

pub cond_no : {b : Bool} (x : ℕ) {y : ℕ} → b ≡ false → y ≡ cond b x y
cond_no x e = rw e

-- k of the steps are made
pub record Picking (op : ℕ → ℕ → ℕ) (test : ℕ → Bool) (value : ℕ → ℕ) (first steps word k : ℕ) : Type 0 where
  pub within : k ≤ steps
  pub so_far : word ≡ picked op test value first k

pub picking_none : {op : ℕ → ℕ → ℕ} {test : ℕ → Bool} {value : ℕ → ℕ} {first steps word : ℕ} → word ≡ first
    → Picking op test value first steps word 0
unfolding picked
picking_none e = record { within = zero-le; so_far = e }

module _ {op : ℕ → ℕ → ℕ} {test : ℕ → Bool} {value : ℕ → ℕ} {first steps word k : ℕ} (p : Picking op test value first steps word k) where
  pub picking_in : {next : ℕ} → k < steps → test k ≡ true → next ≡ op word (value k) → Picking op test value first steps next (k + 1)
  unfolding picked
  picking_in h t e = record { within = omega arith; so_far = e ∙ rw (add-one, t, p.so_far) }

  pub picking_out : {next : ℕ} → k < steps → test k ≡ false → next ≡ word → Picking op test value first steps next (k + 1)
  unfolding picked
  picking_out h t e = record { within = omega arith; so_far = e ∙ rw (add-one, t) p.so_far }

  pub picking_all : steps ≤ k → word ≡ picked op test value first steps
  picking_all h =
      let last : k ≡ steps = omega (arith, p.within) in
      p.so_far ∙ rw last
