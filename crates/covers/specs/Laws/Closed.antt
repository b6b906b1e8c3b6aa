-- `closed_of` marks the sets that have a marked subset, `less_of` those that are marked less one action.
use Prim.Native.Nat.{ℕ, zero, suc, ◌-◌, ◌^◌, ◌≤◌, ◌<◌, zero-le}
use Rattle.std.specs.Prelude.{Bool, false, ◌&&◌, ◌||◌, not, ◌≢◌, ◌≡◌, eqb}
use Rattle.std.proofs.Math.Bool.{and-true}
use Rattle.std.proofs.Math.Logic.{inl, inr, ⊎_elim}
use Rattle.std.proofs.Math.Path.{refl, sym, ap, subst}
use Rattle.std.proofs.Common.{◌∙◌, le_refl, arith, eqb→eq, T_not}
use Rattle.std.proofs.Math.Decide.{ℕ_discrete}
use Rattle.std.proofs.Math.Dec.{T, eqb_refl}
use Rattle.base.specs.Every.{some_below}
use Rattle.base.specs.Laws.Tests.{is_true, is_false, either, and_make, and_left, and_right, or_left, or_right, or_cases}
use Rattle.mask.specs.Mask.{has, ◌⊆◌}
use Rattle.mask.specs.Laws.{has_or, has_none, has→<, ⊆_antisym, ⊆→<, has_without, without_⊆, ⊆_without}
use Rattle.covers.specs.Covers.{moved, closed_of, less_of}
use Rattle.covers.specs.Laws.Moved.{moved_bit}

-- two sets have the same actions from n on
abbrev pub Agree : ℕ → ℕ → ℕ → Type 0
Agree n j i = (b : ℕ) → n ≤ b → has j b ≡ has i b

-- a marked subset of i that has the actions of i from n on
abbrev pub Under : ℕ → ℕ → ℕ → Type 0
Under x n i = (j : ℕ) × (j ⊆ i) × Agree n j i × T (has x j)

agree_more : (j i n : ℕ) → has j n ≡ has i n → Agree (suc n) j i → Agree n j i
agree_more j i n e more b h = elim (ℕ_discrete b n) [
  | yes k ↦ subst (λ (m : ℕ). has j m ≡ has i m) (sym k) e
  | no k ↦ more b (omega arith)
]

-- less action n, a set has the same actions past it
less_same : (i n b : ℕ) → T (has i n) → suc n ≤ b → has (i - 2 ^ n) b ≡ has i b
less_same i n b t h =
    let apart : b ≢ n = λ e. omega arith in
    has_without i n b t ∙ ap (λ (x : Bool). has i b && not x) (is_false (eqb b n) (λ u. apart (eqb→eq b n u))) ∙ and-true (has i b)

less_none : (i n : ℕ) → T (has i n) → has (i - 2 ^ n) n ≡ false
less_none i n t = is_false (has (i - 2 ^ n) n) (λ u.
    T_not (eqb n n) (and_right (has i n) (not (eqb n n)) (subst T (has_without i n n t) u)) (eqb_refl n))

module _ (x : ℕ) where
  step_bit : (n i : ℕ) → n < 6 → i < 64 → has (closed_of x (suc n)) i
      ≡ (has (closed_of x n) i || (has i n && has (closed_of x n) (i - 2 ^ n)))
  unfolding closed_of
  step_bit n i h s = has_or (closed_of x n) (moved (closed_of x n) n) i
      ∙ ap (λ (b : Bool). has (closed_of x n) i || b) (moved_bit (closed_of x n) n i h s)

  pub closed_under : (n i : ℕ) → n ≤ 6 → i < 64 → T (has (closed_of x n) i) → Under x n i
  unfolding closed_of
  closed_under zero i h s t = (i, λ b u. u, λ b k. refl, t)
  closed_under (suc n) i h s t = ⊎_elim {C = Under x (suc n) i}
      (λ (u : T (has (closed_of x n) i)).
      let r = closed_under n i (omega arith) s u in (r.0, r.1, λ b k. r.2 b (omega arith), r.3))
      (λ (u : T (has i n && has (closed_of x n) (i - 2 ^ n))).
      let held : T (has i n) = and_left (has i n) (has (closed_of x n) (i - 2 ^ n)) u in
      let r = closed_under n (i - 2 ^ n) (omega arith) (omega arith) (and_right (has i n) (has (closed_of x n) (i - 2 ^ n)) u) in
      (r.0, λ b k. without_⊆ i n held b (r.1 b k), λ b k. r.2 b (omega arith) ∙ less_same i n b held k, r.3))
      (or_cases (has (closed_of x n) i) (has i n && has (closed_of x n) (i - 2 ^ n)) (subst T (step_bit n i (omega arith) s) t))

  pub closed_over : (n i j : ℕ) → n ≤ 6 → i < 64 → j ⊆ i → Agree n j i → T (has x j) → T (has (closed_of x n) i)
  unfolding closed_of
  closed_over zero i j h s sub agree t =
      subst (λ (k : ℕ). T (has x k)) (⊆_antisym j i sub (λ b u. subst T (sym (agree b zero-le)) u)) t
  closed_over (suc n) i j h s sub agree t = subst T (sym (step_bit n i (omega arith) s)) (elim (either (has j n)) [
    | inl u ↦ or_left (has (closed_of x n) i) (has i n && has (closed_of x n) (i - 2 ^ n)) (closed_over n i j (omega arith) s sub
        (agree_more j i n (is_true (has j n) u ∙ sym (is_true (has i n) (sub n u))) agree) t)
    | inr u ↦ elim (either (has i n)) [
      | inl v ↦ or_right (has (closed_of x n) i) (has i n && has (closed_of x n) (i - 2 ^ n))
          (and_make (has i n) (has (closed_of x n) (i - 2 ^ n)) v (closed_over n (i - 2 ^ n) j (omega arith) (omega arith)
          (⊆_without j i n v sub u)
          (agree_more j (i - 2 ^ n) n (is_false (has j n) (T_not (has j n) u) ∙ sym (less_none i n v))
          (λ b k. agree b k ∙ sym (less_same i n b v k)))
          t))
      | inr v ↦ or_left (has (closed_of x n) i) (has i n && has (closed_of x n) (i - 2 ^ n)) (closed_over n i j (omega arith) s sub
          (agree_more j i n (is_false (has j n) (T_not (has j n) u) ∙ sym (is_false (has i n) (T_not (has i n) v))) agree) t)
    ]
  ])

  -- i is marked exactly when some subset of it was
  pub closed_at : (i : ℕ) → i < 64 → T (has (closed_of x 6) i) → (j : ℕ) × (j < 64) × (j ⊆ i) × T (has x j)
  closed_at i s t = let r = closed_under 6 i (le_refl 6) s t in (r.0, ⊆→< r.0 i 6 r.1 s, r.1, r.3)

  pub closed_make : (i j : ℕ) → i < 64 → j ⊆ i → T (has x j) → T (has (closed_of x 6) i)
  closed_make i j s sub t = closed_over 6 i j (le_refl 6) s sub past t
    where
      past : Agree 6 j i
      past b h = is_false (has j b) (λ u. omega (arith, has→< j b 6 u (⊆→< j i 6 sub s)))
          ∙ sym (is_false (has i b) (λ u. omega (arith, has→< i b 6 u s)))

  -- i less one of its first n actions was marked
  pub less_bit : (n i : ℕ) → n ≤ 6 → i < 64 → has (less_of x n) i ≡ some_below n (λ a. has i a && has x (i - 2 ^ a))
  unfolding less_of some_below
  less_bit zero i h s = is_false (has 0 i) (has_none i)
  less_bit (suc n) i h s = has_or (less_of x n) (moved x n) i
      ∙ ap (λ (b : Bool). b || has (moved x n) i) (less_bit n i (omega arith) s)
      ∙ ap (λ (b : Bool). some_below n (λ a. has i a && has x (i - 2 ^ a)) || b) (moved_bit x n i (omega arith) s)
