-- The actions of the sets 64 w to 64 w + 63: the lowest six actions are those of the place, and the others those of w.
use Rattle.std.specs.Prelude.{ℕ, zero, suc, ◌+◌, ◌-◌, ◌*◌, ◌/◌, ◌%◌, ◌^◌, ◌≤◌, ◌<◌, Bool, true, false, List, [], ◌∷◌, ◌≡◌, refl, T, eqb, get_or}
use Rattle.std.proofs.Common.{sym, ◌∙◌, ap, arith, eqb→eq, shr-shr}
use Rattle.std.specs.Int.Bits.{block_half, block_odd}
use Rattle.std.proofs.Math.Pow.{high}
use Rattle.base.specs.Every.{every_below}
use Rattle.base.specs.Laws.Tests.{every_below_at}
use Rattle.mask.specs.Mask.{has}
use Rattle.mask.specs.Laws.{has_low, has_high}
use Rattle.mask.specs.Laws.Packed.{packed_same}
use Rattle.mask.specs.Packed.{packed}
use Rattle.columns.specs.Sets.{all_sets, column_of}

pub block_low : (n w i a : ℕ) → a < n → has (w * 2 ^ n + i) a ≡ has i a
block_low zero w i a h = absurd (omega arith)
block_low (suc n) w i zero h =
    has_low (w * 2 ^ suc n + i) ∙ ap (λ (x : ℕ). eqb x 1) (block_odd w n i) ∙ sym (has_low i)
block_low (suc n) w i (suc a) h =
    has_high (w * 2 ^ suc n + i) a ∙ ap (λ (x : ℕ). has x a) (block_half w n i) ∙ block_low n w (i / 2) a (omega arith) ∙ sym
    (has_high i a)

block_high : (n w i a : ℕ) → i < 2 ^ n → has (w * 2 ^ n + i) (n + a) ≡ has w a
block_high n w i a h = ap (λ (x : ℕ). eqb (x % 2) 1)
    (sym (shr-shr (w * 2 ^ n + i) n a) ∙ ap (λ (x : ℕ). x / 2 ^ a) (high w n h))

module _ (w i : ℕ) where
  sets_split : 64 * w + i ≡ w * 2 ^ 6 + i
  sets_split = omega arith

  pub low_action : (a : ℕ) → a < 6 → has (64 * w + i) a ≡ has i a
  low_action a h = ap (λ (x : ℕ). has x a) sets_split ∙ block_low 6 w i a h

  pub high_action : (a : ℕ) → 6 ≤ a → i < 64 → has (64 * w + i) a ≡ has w (a - 6)
  high_action a h s = ap (λ (x : ℕ). has x a) sets_split ∙ ap (has (w * 2 ^ 6 + i)) back ∙ block_high 6 w i (a - 6) s
    where
      back : a ≡ 6 + (a - 6)
      back = omega arith

  -- the sets of w up to 1,023 are masks of 16 actions
  pub set_small : w ≤ 1023 → i < 64 → 64 * w + i < 2 ^ 16
  set_small h s = omega arith

-- ---- the words of single actions
unfoldable pub lows : List ℕ
lows = 12297829382473034410 ∷ 14757395258967641292 ∷ 17361641481138401520 ∷ 18374966859414961920 ∷ 18446462603027742720
    ∷ 18446744069414584320 ∷ []

-- the test of the table of the lowest six actions
low_right : ℕ → Bool
low_right a = eqb (get_or lows a 0) (packed 64 (λ i. has i a))

lows_right : T (every_below 6 low_right)
unfolding lows low_right packed every_below
lows_right = tt

pub low_column : (w a : ℕ) → a < 6 → get_or lows a 0 ≡ column_of w a
unfolding column_of low_right
low_column w a h = eqb→eq (get_or lows a 0) (packed 64 (λ i. has i a)) (every_below_at low_right 6 lows_right a h)
    ∙ packed_same 64 (λ i. has i a) (λ i. has (64 * w + i) a) (λ i s. sym (low_action w i a h))

pub all_set : all_sets ≡ packed 64 (λ i. true)
unfolding packed
all_set = refl

pub none_set : 0 ≡ packed 64 (λ i. false)
unfolding packed
none_set = refl

pub high_column : (w a : ℕ) (b : Bool) → 6 ≤ a → has w (a - 6) ≡ b → packed 64 (λ i. b) ≡ column_of w a
unfolding column_of
high_column w a b h e = packed_same 64 (λ i. b) (λ i. has (64 * w + i) a) (λ i s. sym (high_action w i a h s ∙ e))
