-- The digits that `io::decimal` writes are those of the format.
use Prim.Native.Nat.{ℕ, zero, suc, ◌+◌, ◌-◌, ◌/◌, ◌%◌, ◌^◌, ◌≤◌, ◌<◌}
use mathlib.Core.Path.{◌≡◌, sym, ap}
use mathlib.Core.List.{[], ◌∷◌, ◌++◌}
use native.Mathlib.Omega.{arith}
use native.Mathlib.Nat.{pow-le-pow_right, one-le-pow}
use native.Mathlib.Decide.{dec_lt}
use borrow.Author.Tests.{lt-ltb}
use Rattle.io.specs.Digits.{last_digits, hex_digit_ascii, IsDigitCount}
use Rattle.format.specs.Text.{decimal_by}
use Rattle.format.specs.Laws.Numbers.{one_digit, more_digits}

-- the byte of a digit below 10
glyph_below : (d : ℕ) → d < 10 → hex_digit_ascii d ≡ 48 + d
glyph_below d h = rw (lt-ltb d 10 h)

-- the fewest digits of a number
pub digits_decimal : (fuel k n : ℕ) → IsDigitCount 10 1 n k → k ≤ suc fuel → last_digits 10 k n ≡ decimal_by fuel n
digits_decimal fuel zero n (some, small, lead) h = absurd (omega arith)
digits_decimal fuel (suc zero) n (some, small, lead) h =
    let last : n % 10 ≡ n = omega arith in
    rw (last, glyph_below n (omega arith)) (sym (one_digit fuel n (omega arith)))
digits_decimal zero (suc (suc k)) n f h = absurd (omega arith)
digits_decimal (suc fuel) (suc (suc k)) n (some, small, lead) h =
    let same : suc (suc k) - 1 ≡ suc k = omega arith in
    let less : suc k - 1 ≡ k = omega arith in
    let least : 10 ^ suc k ≤ n = rw same at (lead (omega arith)) in
    let large : 10 ≤ n = omega (arith, one-le-pow k 10 (omega arith)) in
    let rest : IsDigitCount 10 1 (n / 10) (suc k) = (omega arith, omega arith, λ _. rw less (omega arith)) in
    rw (more_digits fuel n large, glyph_below (n % 10) (omega arith))
    (ap (λ l. l ++ ((48 + n % 10) ∷ [])) (digits_decimal fuel (suc k) (n / 10) rest (omega arith)))

-- a number of 32 bits has at most ten digits
pub few_digits : (n k : ℕ) → n < 4294967296 → (1 < k → 10 ^ (k - 1) ≤ n) → k ≤ 10
few_digits n k small lead = elim (dec_lt 10 k) [
  | yes long ↦
      let longer : 10 ≤ k - 1 = omega arith in
      let large : 10 ^ 10 ≤ 10 ^ (k - 1) = pow-le-pow_right (omega arith) longer in
      absurd (omega (arith, lead (omega arith)))
  | no short ↦ omega arith
]
