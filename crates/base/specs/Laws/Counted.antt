-- Laws of how many numbers below a bound pass a test.
use Prim.Native.Nat.{ℕ, zero, suc, ◌+◌, ◌≤◌, ◌<◌, zero-le}
use Rattle.std.specs.Prelude.{Bool, true, false, cond, not, ◌&&◌, ◌≡◌, T}
use Rattle.std.proofs.Math.Logic.{⊎_elim}
use Rattle.std.proofs.Math.Path.{refl}
use Rattle.std.proofs.Common.{ap, not-suc-le-zero, add-zero, add-suc, arith}
use Rattle.std.proofs.Math.Nat.{le_refl}
use Rattle.base.specs.Counted.{counted}
use Rattle.base.specs.Laws.Tests.{is_true, is_false, last_or_below, below_suc}

-- a number counts once at most
one : (b : Bool) → cond b 1 0 ≤ 1
one true = le_refl 1
one false = zero-le

pub counted_most : (f : ℕ → Bool) (n : ℕ) → counted f n ≤ n
unfolding counted
counted_most f zero = le_refl 0
counted_most f (suc n) = omega (arith, counted_most f n, one (f n))

-- what passes the test f passes g too
module _ (f g : ℕ → Bool) (too : (i : ℕ) → T (f i) → T (g i)) where
  one_more : (a b : Bool) → (T a → T b) → cond a 1 0 ≤ cond b 1 0
  one_more true true t = le_refl 1
  one_more true false t = absurd (t tt)
  one_more false b t = zero-le

  counted_more : (n : ℕ) → counted f n ≤ counted g n
  unfolding counted
  counted_more zero = le_refl 0
  counted_more (suc n) = omega (arith, counted_more n, one_more (f n) (g n) (too n))

  -- and b passes g alone
  pub counted_fewer : (b n : ℕ) → b < n → ¬ T (f b) → T (g b) → counted f n < counted g n
  unfolding counted
  counted_fewer b zero h s t = absurd (not-suc-le-zero h)
  counted_fewer b (suc n) h s t = ⊎_elim {C = counted f (suc n) < counted g (suc n)}
      (λ (e : b ≡ n). rw (← e, is_false (f b) s, is_true (g b) t) (omega (arith, counted_more b)))
      (λ (l : b < n). omega (arith, counted_fewer b n l s t, one_more (f n) (g n) (too n))) (last_or_below h)

-- tests that agree count the same
pub counted_same : (f g : ℕ → Bool) (n : ℕ) → ((i : ℕ) → i < n → f i ≡ g i) → counted f n ≡ counted g n
unfolding counted
counted_same f g zero e = refl
counted_same f g (suc n) e = rw (counted_same f g n (λ i h. e i (below_suc h)), e n (le_refl (suc n)))

-- the numbers below a, and those from a on
pub counted_apart : (f : ℕ → Bool) (a b : ℕ) → counted f (a + b) ≡ counted f a + counted (λ i. f (a + i)) b
unfolding counted
counted_apart f a zero = omega (arith, ap (counted f) (add-zero a))
counted_apart f a (suc b) = rw add-suc (omega (arith, counted_apart f a b))

-- a second test splits those that pass
one_split : (a b : Bool) → cond a 1 0 ≡ cond (a && b) 1 0 + cond (a && not b) 1 0
one_split true true = refl
one_split true false = refl
one_split false b = refl

pub counted_split : (f g : ℕ → Bool) (n : ℕ) → counted f n ≡ counted (λ i. f i && g i) n + counted (λ i. f i && not (g i)) n
unfolding counted
counted_split f g zero = refl
counted_split f g (suc n) = omega (arith, one_split (f n) (g n), counted_split f g n)

module _ (f : ℕ → Bool) where
  -- no number passes
  pub counted_none : (n : ℕ) → ((i : ℕ) → i < n → T (f i) → ⊥) → counted f n ≡ 0
  unfolding counted
  counted_none zero none = refl
  counted_none (suc n) none =
      rw (is_false (f n) (none n (le_refl (suc n)))) (omega (arith, counted_none n (λ i h. none i (below_suc h))))

  -- all that pass are one number
  last_one : (b : Bool) (below : ℕ) → (T b → below ≡ 0) → below ≤ 1 → below + cond b 1 0 ≤ 1
  last_one true below none few = omega (arith, none tt)
  last_one false below none few = omega arith

  pub counted_one : (n : ℕ) → ((i j : ℕ) → i < n → j < n → T (f i) → T (f j) → i ≡ j) → counted f n ≤ 1
  unfolding counted
  counted_one zero same = zero-le
  counted_one (suc n) same =
      last_one (f n) (counted f n)
      (λ t. counted_none n (λ i h s. omega (arith, same i n (below_suc h) (le_refl (suc n)) s t)))
      (counted_one n (λ i j h k. same i j (below_suc h) (below_suc k)))
