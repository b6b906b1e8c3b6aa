-- The masks that follow a mask up to its lowest action's worth contain it, and so have no fewer actions.
use Prim.Native.Nat.{ℕ, zero, suc, ◌+◌, ◌-◌, ◌*◌, ◌/◌, ◌%◌, ◌^◌, ◌≤◌, ◌<◌}
use mathlib.Core.Logic.{◌≢◌}
use mathlib.Core.Path.{◌≡◌, refl, sym, ◌∙◌, ap}
use native.Mathlib.Decide.{dec_lt, dec_le}
use native.Mathlib.Nat.{mul-le-mul_right, mul_assoc, suc-mul, zero-mul, pow-suc}
use native.Mathlib.Omega.{arith}
use lib.Count.{ones, ones_cat, count_trailing_zeros, under}
use lib.Pow.{pow_pos, pow_mono, pow-add}
use Rattle.mask.specs.Laws.Ones.{ones_zero}

-- n is a multiple of 2 ^ j
abbrev Multiple : ℕ → ℕ → Type 0
Multiple n j = (a : ℕ) × (n ≡ a * 2 ^ j)

double : (n j : ℕ) → n % 2 ≡ 0 → Multiple (n / 2) j → Multiple n (suc j)
double n j e (a, half) =
    let twice : a * 2 ^ suc j ≡ (a * 2 ^ j) * 2 = ap (λ (x : ℕ). a * x) (pow-suc 2 j) ∙ sym (mul_assoc a (2 ^ j) 2) in
    (a, omega arith)

-- a number is a multiple of the worth of its lowest digit
multiple : (k n : ℕ) → Multiple n (count_trailing_zeros k n)
unfolding count_trailing_zeros
multiple zero n = (n, omega arith)
multiple (suc k) n = case (n % 2) refl (multiple k (n / 2))
  where
    case : (d : ℕ) → n % 2 ≡ d → Multiple (n / 2) (count_trailing_zeros k (n / 2)) → Multiple n (under d (count_trailing_zeros k (n / 2)))
    case zero e half = double n (count_trailing_zeros k (n / 2)) e half
    case (suc d) e half = (n, omega arith)

module _ (s j : ℕ) (whole : Multiple s j) where
  -- they have no fewer actions
  leap_ones : (t : ℕ) → s ≤ t → t < s + 2 ^ j → ones s ≤ ones t
  leap_ones t h l =
      let a = whole.0 in
      let rest : t ≡ a * 2 ^ j + (t - s) = omega (arith, whole.1) in
      let same : s ≡ a * 2 ^ j + 0 = omega (arith, whole.1) in
      let here : ones s ≡ ones a + ones 0 = ap ones same ∙ ones_cat j a 0 (pow_pos j) in
      let there : ones t ≡ ones a + ones (t - s) = ap ones rest ∙ ones_cat j a (t - s) (omega arith) in
      omega (arith, ones_zero)

  -- and are masks of as many actions
  leap_within : (m : ℕ) → s ≢ 0 → s < 2 ^ m → s + 2 ^ j ≤ 2 ^ m
  leap_within m ne l = elim (dec_lt j m) [
    | yes k ↦
        let b : ℕ = 2 ^ (m - j) in
        let sum : m ≡ (m - j) + j = omega arith in
        let top : 2 ^ m ≡ b * 2 ^ j = ap (λ (x : ℕ). 2 ^ x) sum ∙ pow-add 2 (m - j) j in
        elim (dec_le b whole.0) [
          | yes over ↦ absurd (omega (arith, whole.1, mul-le-mul_right (2 ^ j) over))
          | no under ↦
              let next : suc whole.0 ≤ b = omega arith in
              omega (arith, whole.1, mul-le-mul_right (2 ^ j) next, suc-mul whole.0 (2 ^ j))
        ]
    | no k ↦
        let long : 2 ^ m ≤ 2 ^ j = pow_mono (omega arith) in
        elim (dec_le 1 whole.0) [
          | yes some ↦ absurd (omega (arith, whole.1, mul-le-mul_right (2 ^ j) some))
          | no none ↦
              let nothing : whole.0 ≡ 0 = omega arith in
              absurd (ne (whole.1 ∙ ap (λ (x : ℕ). x * 2 ^ j) nothing ∙ zero-mul (2 ^ j)))
        ]
  ]

pub leap_least : (s t : ℕ) → s ≤ t → t < s + 2 ^ count_trailing_zeros 16 s → ones s ≤ ones t
leap_least s t h l = leap_ones s (count_trailing_zeros 16 s) (multiple 16 s) t h l

pub leap_set : (m s : ℕ) → s ≢ 0 → s < 2 ^ m → s + 2 ^ count_trailing_zeros 16 s ≤ 2 ^ m
leap_set m s ne l = leap_within s (count_trailing_zeros 16 s) (multiple 16 s) m ne l
