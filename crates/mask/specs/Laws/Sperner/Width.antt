-- The sets that stand in one chain are at most as many as the chains that it falls into. No chain is listed: the things are
-- taken one by one. A set stands at a place of a chain over the things that are done, and its rest is the set of those to
-- come. The next thing splits the sets of a chain between two chains, and once no thing is left those of a chain are one.
use Rattle.std.specs.Prelude.{ℕ, zero, suc, ◌+◌, ◌*◌, ◌/◌, ◌%◌, ◌^◌, ◌≤◌, ◌<◌, ◌≡◌, Bool, not, ◌&&◌, T, ltb}
use Rattle.std.proofs.Common.{sym, arith, ltb→lt}
use Rattle.std.proofs.Math.Logic.{dite}
use Rattle.std.proofs.Math.Decide.{dec_le}
use Rattle.std.proofs.Math.Dec.{nltb→le}
use Rattle.base.specs.Counted.{counted}
use Rattle.base.specs.Laws.Counted.{counted_split, counted_none, counted_one}
use Rattle.base.specs.Laws.Tests.{and_left, and_right}
use Rattle.mask.specs.Mask.{◌⊆◌}
use Rattle.mask.specs.Laws.{⊆_self, ⊆_join}
use Rattle.mask.specs.Laws.Sperner.Chains.{chains}

-- The sets x below N that the test takes: each stands at `place x` of a chain of k sets, its rest has only the n things to
-- come, and two of them in order, both in the chain and in the rest, are the same.
pub record Chained (N : ℕ) (takes : ℕ → Bool) (place rest : ℕ → ℕ) (n k : ℕ) : Type 0 where
  pub in_chain : (x : ℕ) → x < N → T (takes x) → place x < k
  pub in_rest : (x : ℕ) → x < N → T (takes x) → rest x < 2 ^ n
  pub apart : (x y : ℕ) → x < N → y < N → T (takes x) → T (takes y) → place x ≤ place y → rest x ⊆ rest y → x ≡ y

-- of a chain of k + 1 sets, those that have the next thing and are not at the chain's last place go to the short chain
short : ℕ → (ℕ → ℕ) → (ℕ → ℕ) → ℕ → Bool
short k place rest x = ltb (place x) (k * (rest x % 2))

-- such a set at place p, where b is 1 if it has the thing and 0 if not
short_place : (k p b : ℕ) → b < 2 → p < k * b → (p < k) × (b ≡ 1)
short_place k p zero h s = omega arith
short_place k p (suc zero) h s = omega arith
short_place k p (suc (suc b)) h s = omega arith

-- in the long chain a set that has the thing stands one place on: two sets in order there were in order before
long_order : (k p q b c : ℕ) → b < 2 → k * b ≤ p → k * c ≤ q → p ≤ k → q ≤ k → p + b ≤ q + c → (p ≤ q) × (b ≤ c)
long_order k p q zero zero h s s' u u' o = omega arith
long_order k p q (suc b) zero h s s' u u' o = omega arith
long_order k p q b (suc c) h s s' u u' o = omega arith

-- the next thing splits the sets of a chain between the short chain and the long one
module _ {N : ℕ} {takes : ℕ → Bool} {place rest : ℕ → ℕ} {n k : ℕ} (c : Chained N takes place rest (suc n) (suc k)) where
  abbrev to_short : ℕ → Bool
  to_short x = takes x && short k place rest x

  abbrev to_long : ℕ → Bool
  to_long x = takes x && not (short k place rest x)

  is_short : (x : ℕ) → T (to_short x) → T (takes x) × (place x < k) × (rest x % 2 ≡ 1)
  unfolding short
  is_short x t =
      let (before, odd) = short_place k (place x) (rest x % 2) (omega arith) (ltb→lt _ _ (and_right (takes x) (short k place rest x) t)) in
      (and_left (takes x) (short k place rest x) t, before, odd)

  is_long : (x : ℕ) → x < N → T (to_long x) → T (takes x) × (k * (rest x % 2) ≤ place x) × (place x < suc k)
  unfolding short
  is_long x h t =
      let old = and_left (takes x) (not (short k place rest x)) t in
      (old, nltb→le _ _ (and_right (takes x) (not (short k place rest x)) t), c.in_chain x h old)

  short_part : Chained N to_short place (λ x. rest x / 2) n k
  short_part = record {
    in_chain = λ x h t. (is_short x t).1;
    in_rest = λ x h t. omega (arith, c.in_rest x h (is_short x t).0);
    apart = λ x y h l t u o sub.
        let (old, before, odd) = is_short x t in
        let (old', before', odd') = is_short y u in
        c.apart x y h l old old' o (⊆_join (rest x) (rest y) (omega arith) sub);
  }

  long_part : Chained N to_long (λ x. place x + rest x % 2) (λ x. rest x / 2) n (suc (suc k))
  long_part = record {
    in_chain = λ x h t. omega (arith, (is_long x h t).2);
    in_rest = λ x h t. omega (arith, c.in_rest x h (is_long x h t).0);
    apart = λ x y h l t u o sub.
        let (old, s, v) = is_long x h t in
        let (old', s', v') = is_long y l u in
        let (before, low) = long_order k (place x) (place y) (rest x % 2) (rest y % 2) (omega arith) s s' (omega arith) (omega arith) o in
        c.apart x y h l old old' before (⊆_join (rest x) (rest y) low sub);
  }

module _ {N : ℕ} {takes : ℕ → Bool} {place rest : ℕ → ℕ} where
  -- an empty chain has no set
  empty_chain : {n : ℕ} → Chained N takes place rest n 0 → counted takes N ≤ 0
  empty_chain c = omega (arith, counted_none takes N (λ x h t. omega (arith, c.in_chain x h t)))

  -- and a chain has one set, once nothing is left to come
  full_chain : {k : ℕ} → Chained N takes place rest 0 k → counted takes N ≤ 1
  full_chain c = counted_one takes N (λ x y h l t u.
      dite (dec_le (place x) (place y)) (in_order x y h l t u) (λ over. sym (in_order y x l h u t (omega arith))))
    where
      in_order : (x y : ℕ) → x < N → y < N → T (takes x) → T (takes y) → place x ≤ place y → x ≡ y
      in_order x y h l t u o = c.apart x y h l t u o (⊆_self (omega (arith, c.in_rest x h t, c.in_rest y l u)))

-- so the sets of one chain are at most as many as the chains that it falls into
pub width : (n k : ℕ) {N : ℕ} {takes : ℕ → Bool} {place rest : ℕ → ℕ} → Chained N takes place rest n k → counted takes N ≤ chains n k
unfolding chains
width zero zero c = empty_chain c
width zero (suc k) c = full_chain c
width (suc n) zero c = empty_chain c
width (suc n) (suc k) {N} {takes} {place} {rest} c =
    let shorter = width n k (short_part c) in
    let longer = width n (suc (suc k)) (long_part c) in
    omega (arith, counted_split takes (short k place rest) N)
