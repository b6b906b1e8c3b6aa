-- How many members a mask has: the ones among its digits.
use Rattle.std.specs.Prelude.{ℕ, zero, suc, ◌+◌, ◌*◌, ◌-◌, ◌/◌, ◌%◌, ◌^◌, ◌≤◌, ◌<◌, cond, ◌≡◌, refl, eqb}
use Rattle.std.proofs.Common.{ap, ◌∙◌, mod-lt, mod-eq_of_lt, one-add, arith, pow_pos}
use Rattle.std.proofs.Math.Nat.{mod-one}
use Rattle.std.specs.Int.Count.{ones, ones_in, ones_step}
use Rattle.std.proofs.lemmas.Nat.{ones_cat, ones-le, mod-pow-add}
use Rattle.base.specs.Counted.{counted}
use Rattle.mask.specs.Mask.{has, ◌⊆◌}
use Rattle.mask.specs.Laws.{digit, low_le, ⊆_half, ⊆_self, ⊆_join, below_pow}

-- the empty mask has none
pub ones_zero : ones 0 ≡ 0
unfolding ones
ones_zero = refl

-- those of the first i actions that a set has are the ones among its lowest i digits
counted_low : (w i : ℕ) → counted (has w) i ≡ ones (w % 2 ^ i)
unfolding counted ones ones_in
counted_low w zero = rw mod-one
counted_low w (suc i) =
    let bits : w % 2 ^ suc i ≡ (w / 2 ^ i % 2) * 2 ^ i + w % 2 ^ i = rw one-add at (mod-pow-add w 1 i) in
    let apart = ones_cat i (w / 2 ^ i % 2) (w % 2 ^ i) (mod-lt _ (pow_pos i)) in
    let one = digit (λ (x : ℕ). cond (eqb x 1) 1 0 ≡ ones x) refl refl (w / 2 ^ i % 2) (omega arith) in
    rw (bits, apart) (omega (arith, counted_low w i))

pub counted_ones : (s i : ℕ) → s < 2 ^ i → counted (has s) i ≡ ones s
counted_ones s i h = counted_low s i ∙ ap ones (mod-eq_of_lt h)

-- a subset has no more members
ones_subset : (n a b : ℕ) → a < 2 ^ n → a ⊆ b → ones a ≤ ones b
ones_subset zero a b h sub = omega (arith, ones-le 0 a h)
ones_subset (suc n) a b h sub =
    omega (arith, ones_step a, ones_step b, low_le a b sub, ones_subset n (a / 2) (b / 2) (omega arith) (⊆_half a b sub))

pub fewer_ones : (a b : ℕ) → a ⊆ b → ones a ≤ ones b
fewer_ones a b = ones_subset a a b (below_pow a)

-- and one with as many members is the whole
same_size_below : (n a b : ℕ) → a < 2 ^ n → b < 2 ^ n → a ⊆ b → ones a ≡ ones b → a ≡ b
same_size_below zero a b h k sub e = omega arith
same_size_below (suc n) a b h k sub e =
    let rest = ⊆_half a b sub in
    let low = low_le a b sub in
    let fewer = ones_subset n (a / 2) (b / 2) (omega arith) rest in
    let step = ones_step a in
    let step' = ones_step b in
    omega (arith, same_size_below n (a / 2) (b / 2) (omega arith) (omega arith) rest (omega arith))

pub same_size : (a b : ℕ) → a ⊆ b → ones a ≡ ones b → a ≡ b
same_size a b = same_size_below (a + b) a b (omega (arith, below_pow (a + b))) (omega (arith, below_pow (a + b)))

-- a set with members has a subset with one member fewer
abbrev OneFewer : ℕ → Type 0
OneFewer s = (t : ℕ) × (t ⊆ s) × (suc (ones t) ≡ ones s)

fewer_even : (s : ℕ) → s % 2 ≡ 0 → OneFewer (s / 2) → OneFewer s
fewer_even s e (t, sub, one) =
    let half : t * 2 / 2 ≡ t = omega arith in
    (t * 2, ⊆_join (t * 2) s (omega arith) (rw half sub), omega (arith, ones_step (t * 2), ones_step s, ap ones half))

fewer_odd : (s : ℕ) → s % 2 ≡ 1 → OneFewer s
fewer_odd s e =
    let half : (s - 1) / 2 ≡ s / 2 = omega arith in
    (s - 1, ⊆_join (s - 1) s (omega arith) (⊆_self half), omega (arith, ones_step (s - 1), ones_step s, ap ones half))

fewer_below : (n s : ℕ) → s < 2 ^ n → 1 ≤ ones s → OneFewer s
fewer_below zero s h some = absurd (omega (arith, ones-le 0 s h))
fewer_below (suc n) s h some = digit (λ (x : ℕ). s % 2 ≡ x → OneFewer s)
    (λ e. fewer_even s e (fewer_below n (s / 2) (omega arith) (omega (arith, ones_step s)))) (fewer_odd s) (s % 2) (omega arith) refl

pub one_fewer : (s : ℕ) → 1 ≤ ones s → OneFewer s
one_fewer s = fewer_below s s (below_pow s)
