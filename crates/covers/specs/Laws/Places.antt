-- The sets 64 w + i: their subsets, and what is left of them less one action.
use Rattle.std.specs.Prelude.{ℕ, ◌+◌, ◌-◌, ◌*◌, ◌/◌, ◌%◌, ◌^◌, ◌≤◌, ◌<◌, ◌≡◌, T, eqb}
use Rattle.std.proofs.Common.{sym, ◌∙◌, ap, subst, arith, shr-shr, pow-add}
use Rattle.std.proofs.Math.Decide.{dec_lt}
use Rattle.mask.specs.Mask.{has, ◌⊆◌}
use Rattle.mask.specs.Laws.{has→≤, has→<}
use Rattle.columns.specs.Laws.Columns.{low_action, high_action}
use Rattle.covers.specs.Laws.Moved.{has_mod}

pub has_word : (s b : ℕ) → has (s / 64) b ≡ has s (6 + b)
has_word s b = ap (λ (x : ℕ). eqb (x % 2) 1) (shr-shr s 6 b)

pub upper : (w i b : ℕ) → i < 64 → has (64 * w + i) (6 + b) ≡ has w b
upper w i b s = high_action w i (6 + b) (omega arith) s ∙ ap (has w) back
  where
    back : 6 + b - 6 ≡ b
    back = omega arith

-- a subset lies in the word of a subset, at the place of a subset
pub subset_word : (t w i : ℕ) → i < 64 → t ⊆ (64 * w + i) → (t / 64) ⊆ w
subset_word t w i s sub b h = subst T (upper w i b s) (sub (6 + b) (subst T (has_word t b) h))

pub subset_place : (t w i : ℕ) → t ⊆ (64 * w + i) → (t % 64) ⊆ i
subset_place t w i sub b h =
    let small : t % 64 < 2 ^ 6 = omega arith in
    let few : b < 6 = has→< (t % 64) b 6 h small in
    subst T (low_action w i b few) (sub b (subst T (has_mod 6 t b few) h))

pub subset_make : (v w j i : ℕ) → j < 64 → i < 64 → v ⊆ w → j ⊆ i → (64 * v + j) ⊆ (64 * w + i)
subset_make v w j i r s words places b h = elim (dec_lt b 6) [
  | yes k ↦ subst T (sym (low_action w i b k)) (places b (subst T (low_action v j b k) h))
  | no k ↦
      let far : 6 ≤ b = omega arith in
      subst T (sym (high_action w i b far s)) (words (b - 6) (subst T (high_action v j b far r) h))
]

-- less one of the upper actions, a set is at the same place of another word
pub less_upper : (w i b : ℕ) → T (has w b) → 64 * (w - 2 ^ b) + i ≡ 64 * w + i - 2 ^ (6 + b)
less_upper w i b h =
    let worth : 2 ^ (6 + b) ≡ 64 * 2 ^ b = pow-add 2 6 b in
    omega (arith, worth, has→≤ w b h)

pub less_lower : (w i a : ℕ) → T (has i a) → 64 * w + (i - 2 ^ a) ≡ 64 * w + i - 2 ^ a
less_lower w i a h = omega (arith, has→≤ i a h)
