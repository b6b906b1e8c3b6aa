-- What a bit of a word says once an action is added to each set.
use Rattle.std.specs.Prelude.{ℕ, zero, suc, ◌+◌, ◌-◌, ◌*◌, ◌/◌, ◌%◌, ◌^◌, ◌≤◌, ◌<◌, Bool, true, false, ◌&&◌, not, ◌≡◌, refl, eqb, get_or}
use Rattle.std.proofs.Common.{sym, ◌∙◌, ap, arith}
use Rattle.std.proofs.Math.Decide.{dec_le}
use Rattle.std.specs.Int.Bits.{shifted_half, shifted_even}
use Rattle.std.proofs.Math.Pow.{split}
use Rattle.base.specs.Laws.Tests.{is_false}
use Rattle.mask.specs.Mask.{has}
use Rattle.mask.specs.Laws.{digit, has_low, has_high, has→≤}
use Rattle.mask.specs.Laws.Packed.{minus, has_minus, packed_bit}
use Rattle.columns.specs.Sets.{column_of}
use Rattle.columns.specs.Laws.Columns.{block_low, lows, low_column, low_action}
use Rattle.covers.specs.Covers.{moved}

pub has_mod : (m n i : ℕ) → i < m → has (n % 2 ^ m) i ≡ has n i
has_mod m n i h = sym (block_low m (n / 2 ^ m) (n % 2 ^ m) i h) ∙ ap (λ (x : ℕ). has x i) (split n m)

-- a shifted number
pub shift_above : (y k i : ℕ) → k ≤ i → has (y * 2 ^ k) i ≡ has y (i - k)
shift_above y zero i h = ap (λ (x : ℕ). has x i) one ∙ ap (has y) all
  where
    one : y * 2 ^ 0 ≡ y
    one = omega arith

    all : i ≡ i - 0
    all = omega arith
shift_above y (suc k) zero h = absurd (omega arith)
shift_above y (suc k) (suc i) h =
    has_high (y * 2 ^ suc k) i ∙ ap (λ (x : ℕ). has x i) (shifted_half y k) ∙ shift_above y k i (omega arith) ∙ ap (has y) less
  where
    less : i - k ≡ suc i - suc k
    less = omega arith

pub shift_below : (y k i : ℕ) → i < k → has (y * 2 ^ k) i ≡ false
shift_below y zero i h = absurd (omega arith)
shift_below y (suc k) zero h = has_low (y * 2 ^ suc k) ∙ ap (λ (x : ℕ). eqb x 1) (shifted_even y k)
shift_below y (suc k) (suc i) h =
    has_high (y * 2 ^ suc k) i ∙ ap (λ (x : ℕ). has x i) (shifted_half y k) ∙ shift_below y k i (omega arith)

-- less the worth of an action, a number has it just if it had it not
odd_even : (i : ℕ) → 1 ≤ i → eqb ((i - 1) % 2) 1 ≡ not (eqb (i % 2) 1)
odd_even i h = digit (λ (x : ℕ). x ≡ i % 2 → eqb ((i - 1) % 2) 1 ≡ not (eqb x 1))
    (λ e. let o : (i - 1) % 2 ≡ 1 = omega arith in ap (λ (x : ℕ). eqb x 1) o)
    (λ e. let o : (i - 1) % 2 ≡ 0 = omega arith in ap (λ (x : ℕ). eqb x 1) o) (i % 2) (omega arith) refl

pub flips : (a i : ℕ) → 2 ^ a ≤ i → has (i - 2 ^ a) a ≡ not (has i a)
flips zero i h = has_low (i - 1) ∙ odd_even i h ∙ ap not (sym (has_low i))
flips (suc a) i h =
    let half : (i - 2 ^ suc a) / 2 ≡ i / 2 - 2 ^ a = omega arith in
    let fits : 2 ^ a ≤ i / 2 = omega arith in
    has_high (i - 2 ^ suc a) a ∙ ap (λ (x : ℕ). has x a) half ∙ flips a (i / 2) fits ∙ ap not (sym (has_high i a))

-- the word of an action among the six
pub lows_bit : (a i : ℕ) → a < 6 → i < 64 → has (get_or lows a 0) i ≡ has i a
unfolding column_of
lows_bit a i h s = ap (λ (x : ℕ). has x i) (low_column 0 a h) ∙ packed_bit 64 (λ j. has (64 * 0 + j) a) i s ∙ low_action 0 i a h

twice : (a b : Bool) → (b && not (not a)) ≡ (a && b)
twice true true = refl
twice true false = refl
twice false true = refl
twice false false = refl

-- i is marked once action a is added where it has the action and was marked less it
pub moved_bit : (x a i : ℕ) → a < 6 → i < 64 → has (moved x a) i ≡ (has i a && has x (i - 2 ^ a))
unfolding moved
moved_bit x a i h s = has_mod 64 (y * 2 ^ (2 ^ a)) i s ∙ elim (dec_le (2 ^ a) i) [
  | yes k ↦ shift_above y (2 ^ a) i k ∙ has_minus x (get_or lows a 0) (i - 2 ^ a)
      ∙ ap (λ (b : Bool). has x (i - 2 ^ a) && not b) (lows_bit a (i - 2 ^ a) h (omega arith) ∙ flips a i k)
      ∙ twice (has i a) (has x (i - 2 ^ a))
  | no k ↦ shift_below y (2 ^ a) i (omega arith)
      ∙ ap (λ (b : Bool). b && has x (i - 2 ^ a)) (sym (is_false (has i a) (λ t. k (has→≤ i a t))))
]
  where
    y : ℕ
    y = minus x (get_or lows a 0)
