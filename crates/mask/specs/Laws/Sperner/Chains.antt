-- The number of chains into which the sets of n things fall, counted without listing one: as many as the middle layer has sets.
use Rattle.std.specs.Prelude.{ℕ, zero, suc, ◌+◌, ◌-◌, ◌/◌, ◌≡◌, refl}
use Rattle.std.proofs.Common.{arith}
use Rattle.mask.specs.Laws.Layers.{choose}

-- Into how many chains a chain of k sets falls when n more things may join its sets. The first of them makes of the chain
-- c1 .. ck the two chains c1 .. ck, ck with the thing, and c1 with the thing .. c(k-1) with the thing: k + 1 sets and k - 1.
unfoldable pub chains : ℕ → ℕ → ℕ
chains zero zero = 0
chains zero (suc k) = 1
chains (suc n) zero = 0
chains (suc n) (suc k) = chains n (suc (suc k)) + chains n k

-- how many sets of n things have fewer than m members
below : ℕ → ℕ → ℕ
below n zero = 0
below n (suc m) = below n m + choose n m

-- they are without the last thing, or with it
below_more : (n m : ℕ) → below (suc n) (suc m) ≡ below n (suc m) + below n m
unfolding below choose
below_more n zero = omega arith
below_more n (suc m) = omega (arith, below_more n m)

below_some : (m : ℕ) → below 0 (suc m) ≡ 1
unfolding below choose
below_some zero = refl
below_some (suc m) = omega (arith, below_some m)

-- one thing more, where c and d are the chains of the two that a chain falls into
step : (n l u c d : ℕ) → (l ≡ 0 → c ≡ below n (suc u)) → ((m : ℕ) → l ≡ suc m → c + below n m ≡ below n (suc u))
    → d + below n l ≡ below n u → c + d + below (suc n) l ≡ below (suc n) (suc u)
unfolding below
step n zero u c d none some e = omega (arith, none refl, below_more n u)
step n (suc m) u c d none some e = omega (arith, some m refl, below_more n m, below_more n u)

-- a chain of k sets falls into as many chains as the k layers in the middle have sets
layers : (n k : ℕ) → chains n k + below n ((n + 1 - k) / 2) ≡ below n ((n + 1 + k) / 2)
unfolding chains below
layers zero zero = refl
layers zero (suc k) =
    let low : (0 + 1 - suc k) / 2 ≡ 0 = omega arith in
    let high : (0 + 1 + suc k) / 2 ≡ suc (k / 2) = omega arith in
    rw (low, high) (omega (arith, below_some (k / 2)))
layers (suc n) zero = let same : (suc n + 1 - 0) / 2 ≡ (suc n + 1 + 0) / 2 = omega arith in rw same (omega arith)
layers (suc n) (suc k) =
    let low : (suc n + 1 - suc k) / 2 ≡ (n + 1 - k) / 2 = omega arith in
    let high : (suc n + 1 + suc k) / 2 ≡ suc ((n + 1 + k) / 2) = omega arith in
    let higher : (n + 1 + suc (suc k)) / 2 ≡ suc ((n + 1 + k) / 2) = omega arith in
    let longer = layers n (suc (suc k)) in
    rw (low, high) (step n ((n + 1 - k) / 2) ((n + 1 + k) / 2) (chains n (suc (suc k))) (chains n k)
    (λ e. let lower : (n + 1 - suc (suc k)) / 2 ≡ 0 = omega arith in omega (arith, rw (lower, higher) at longer))
    (λ m e. let lower : (n + 1 - suc (suc k)) / 2 ≡ m = omega arith in rw (lower, higher) at longer) (layers n k))

-- the sets of no thing are one chain of one set
pub chains_middle : (n : ℕ) → chains n 1 ≡ choose n (n / 2)
unfolding below
chains_middle n =
    let low : (n + 1 - 1) / 2 ≡ n / 2 = omega arith in
    let high : (n + 1 + 1) / 2 ≡ suc (n / 2) = omega arith in
    omega (arith, rw (low, high) at (layers n 1))
