-- Sperner's theorem: a family of sets of n things in which none is a subset of another (an antichain) has no more members than
-- the middle layer, the sets of n / 2 things.
pub mod Chains
pub mod Width
use Rattle.std.specs.Prelude.{ℕ, ◌/◌, ◌^◌, ◌≤◌, ◌<◌, Bool, ◌≡◌, T, leb}
use Rattle.std.proofs.Common.{arith, leb→le}
use Rattle.base.specs.Every.{every_below}
use Rattle.base.specs.Counted.{counted}
use Rattle.base.specs.Laws.Tests.{every_below_at}
use Rattle.mask.specs.Mask.{◌⊆◌, sized}
use Rattle.mask.specs.Laws.Layers.{choose, layer}
use Chains.{chains_middle}
use Width.{Chained, width}

-- none of the sets of n things that the test takes is a subset of another
abbrev pub Antichain : (ℕ → Bool) → ℕ → Type 0
Antichain takes n = (a b : ℕ) → a < 2 ^ n → b < 2 ^ n → T (takes a) → T (takes b) → a ⊆ b → a ≡ b

-- all sets stand at the one place of the one chain over nothing, and are their own rest
pub sperner : (takes : ℕ → Bool) (n : ℕ) → Antichain takes n → counted takes (2 ^ n) ≤ counted (sized (n / 2)) (2 ^ n)
sperner takes n free = omega (arith, chains_middle n, layer n (n / 2), width n 1 all)
  where
    all : Chained (2 ^ n) takes (λ x. 0) (λ x. x) n 1
    all = record { in_chain = λ x h t. omega arith; in_rest = λ x h t. h; apart = λ x y h k t u o. free x y h k t u }

-- of at most sixteen things that is at most 12,870, which are the sets of eight of sixteen
pub middle_few : (n : ℕ) → n ≤ 16 → counted (sized (n / 2)) (2 ^ n) ≤ 12870
unfolding choose every_below
middle_few n h = rw layer
    (leb→le (choose n (n / 2)) 12870 (every_below_at (λ (n : ℕ). leb (choose n (n / 2)) 12870) 17 tt n (omega arith)))
