-- What a bit of a word says that is built up in steps.
use Prim.Native.Nat.{ℕ, zero, suc, ◌^◌, ◌<◌}
use Rattle.std.specs.Prelude.{Bool, true, false, ◌&&◌, ◌||◌, cond, ◌≡◌}
use Rattle.std.proofs.Math.Bool.{not, and-true, or-false, and_assoc, or_assoc}
use Rattle.std.proofs.Math.Path.{sym, ap}
use Rattle.std.proofs.Common.{◌∙◌}
use Rattle.std.specs.Int.Bits.{bit_or}
use Rattle.base.specs.Every.{every_below, some_below}
use Rattle.mask.specs.Mask.{has}
use Rattle.mask.specs.Laws.{has_or}
use Rattle.columns.specs.Sets.{picked}

module _ (test : ℕ → Bool) (value : ℕ → ℕ) (word i : ℕ) where
  -- an operation that keeps a bit where g says so of the value's
  module _ (op : ℕ → ℕ → ℕ) (g : Bool → Bool) (e : (a b : ℕ) → has (op a b) i ≡ (has a i && g (has b i))) where
    keep : (t : Bool) (x y : ℕ) → has (cond t (op x y) x) i ≡ (has x i && (not t || g (has y i)))
    keep true x y = e x y
    keep false x y = sym (and-true (has x i))

    pub picked_keeps : (n : ℕ) → has (picked op test value word n) i
        ≡ (has word i && every_below n (λ b. not (test b) || g (has (value b) i)))
    unfolding picked every_below
    picked_keeps zero = sym (and-true (has word i))
    picked_keeps (suc n) = keep (test n) (picked op test value word n) (value n)
        ∙ ap (λ (x : Bool). x && (not (test n) || g (has (value n) i))) (picked_keeps n)
        ∙ and_assoc (has word i) (every_below n (λ b. not (test b) || g (has (value b) i))) (not (test n) || g (has (value n) i))

  join : (t : Bool) (x y : ℕ) → has (cond t (bit_or x y) x) i ≡ (has x i || (t && has y i))
  join true x y = has_or x y i
  join false x y = sym (or-false (has x i))

  pub picked_joins : (n : ℕ) → has (picked bit_or test value word n) i ≡ (has word i || some_below n (λ b. test b && has (value b) i))
  unfolding picked some_below
  picked_joins zero = sym (or-false (has word i))
  picked_joins (suc n) = join (test n) (picked bit_or test value word n) (value n)
      ∙ ap (λ (x : Bool). x || (test n && has (value n) i)) (picked_joins n)
      ∙ or_assoc (has word i) (some_below n (λ b. test b && has (value b) i)) (test n && has (value n) i)

-- it is no longer than the words that it is built from
pub picked_lt : (m : ℕ) (op : ℕ → ℕ → ℕ) (test : ℕ → Bool) (value : ℕ → ℕ) (word : ℕ) →
    ((a b : ℕ) → a < 2 ^ m → b < 2 ^ m → op a b < 2 ^ m)
    → word < 2 ^ m → ((k : ℕ) → value k < 2 ^ m) → (n : ℕ) → picked op test value word n < 2 ^ m
unfolding picked
picked_lt m op test value word keeps s values zero = s
picked_lt m op test value word keeps s values (suc n) = either_lt (test n) _ _
    (keeps _ _ (picked_lt m op test value word keeps s values n) (values n)) (picked_lt m op test value word keeps s values n)
  where
    either_lt : (t : Bool) (x y : ℕ) → x < 2 ^ m → y < 2 ^ m → cond t x y < 2 ^ m
    either_lt true x y h k = h
    either_lt false x y h k = k
