-- The sets with as many members as each other, a layer: how many there are.
use Rattle.std.specs.Prelude.{ℕ, zero, suc, ◌+◌, ◌^◌, ◌<◌, ◌≡◌, refl, eqb}
use Rattle.std.proofs.Common.{ap, ◌∙◌, one-mul, arith, eqb→eq}
use Rattle.std.specs.Int.Count.{ones, ones_in}
use Rattle.std.proofs.lemmas.Nat.{ones_cat}
use Rattle.std.proofs.Math.Dec.{eqb-zero-suc, eqb-suc-suc}
use Rattle.base.specs.Counted.{counted}
use Rattle.base.specs.Laws.Counted.{counted_same, counted_apart, counted_none}
use Rattle.mask.specs.Mask.{sized}

-- of the sets of n things those with k members (the binomial coefficient): those without the last thing, and those with it
unfoldable pub choose : ℕ → ℕ → ℕ
choose zero zero = 1
choose zero (suc k) = 0
choose (suc n) zero = choose n zero
choose (suc n) (suc k) = choose n (suc k) + choose n k

-- a set with the last thing has one member more
with_last : (n s : ℕ) → s < 2 ^ n → ones (2 ^ n + s) ≡ suc (ones s)
unfolding ones ones_in
with_last n s h = omega (arith, rw one-mul at (ones_cat n 1 s h))

-- the sets with the last thing that have no member, and those that have one more than k
none_with_last : (n : ℕ) → counted (λ s. sized 0 (2 ^ n + s)) (2 ^ n) ≡ 0
none_with_last n = counted_none _ (2 ^ n) (λ s h t. omega (arith, with_last n s h, eqb→eq (ones (2 ^ n + s)) 0 t))

more_with_last : (n k : ℕ) → counted (λ s. sized (suc k) (2 ^ n + s)) (2 ^ n) ≡ counted (sized k) (2 ^ n)
more_with_last n k = counted_same _ (sized k) (2 ^ n)
    (λ s h. ap (λ (x : ℕ). eqb x (suc k)) (with_last n s h) ∙ eqb-suc-suc (ones s) k)

pub layer : (n k : ℕ) → counted (sized k) (2 ^ n) ≡ choose n k
unfolding counted ones ones_in choose
layer zero zero = refl
layer zero (suc k) = rw eqb-zero-suc
layer (suc n) zero =
    let twice : 2 ^ suc n ≡ 2 ^ n + 2 ^ n = omega arith in
    rw twice (omega (arith, counted_apart (sized 0) (2 ^ n) (2 ^ n), none_with_last n, layer n zero))
layer (suc n) (suc k) =
    let twice : 2 ^ suc n ≡ 2 ^ n + 2 ^ n = omega arith in
    rw twice (omega (arith, counted_apart (sized (suc k)) (2 ^ n) (2 ^ n), more_with_last n k, layer n (suc k), layer n k))

-- of 6, 8, 12 and 16 things the sets of half of them
pub halves : (choose 6 3 ≡ 20) × (choose 8 4 ≡ 70) × (choose 12 6 ≡ 924) × (choose 16 8 ≡ 12870)
unfolding choose
halves = (refl, refl, refl, refl)
