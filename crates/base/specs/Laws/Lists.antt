-- Laws of a list filled up to an array's places, and of the front of a mapped one.
use Prim.Native.Nat.{ℕ, zero, suc, ◌+◌, ◌-◌, ◌≤◌, ◌<◌}
use mathlib.Core.List.{List, [], ◌∷◌, ◌++◌, append_assoc, map}
use Rattle.std.specs.Prelude.{◌≡◌, take, get_or, set, replicate}
use Rattle.std.proofs.Math.Path.{refl}
use Rattle.std.proofs.Common.{◌∙◌, ap, ap₂, get_or-append-add}
use Rattle.std.proofs.Math.Numerals.{unary_clauses}
use native.Mathlib.Omega.{arith}
use Rattle.std.proofs.Math.ListN.{length, length-append, get_or-append}
use Rattle.std.proofs.lemmas.List.{length-replicate}
use Rattle.std.proofs.Math.Seq.{take_at, get_or-take, set-append_seam}
use Rattle.base.specs.Lists.{filled}
use Rattle.base.specs.Laws.Tests.{get_or_filled}

-- the front of a mapped list
pub take_map : {A B : Type 0} (h : A → B) (n : ℕ) (l : List A) → take n (map h l) ≡ map h (take n l)
take_map h zero l = refl
take_map h (suc n) [] = refl
take_map h (suc n) (x ∷ l) = rw (take_map h n l)

module _ {A : Type 0} where
  pub filled_length : (n : ℕ) (z : A) (l : List A) → length l ≤ n → length (filled n z l) ≡ n
  unfolding filled
  filled_length n z l h = simp (length-append, length-replicate) (omega arith)

  -- the first n places of a list of n filled up
  pub filled_front : (k n : ℕ) (z : A) (l : List A) → length l ≡ n → take n (filled k z l) ≡ l
  unfolding filled
  filled_front k n z l h = take_at l _ n h

  -- an entry of the first n places, in those places filled up
  pub front_at : (k n : ℕ) (z d : A) (l : List A) (i : ℕ) → length (take n l) ≡ n → i < n → get_or (filled k z (take n l)) i d ≡ get_or l i d
  unfolding filled
  front_at k n z d l i h less = get_or-append (take n l) _ d i (omega arith) ∙ get_or-take n l i d less

  -- past its entries stands the filler
  pub filled_past : (n : ℕ) (z : A) (l : List A) (i : ℕ) → length l ≤ i → get_or (filled n z l) i z ≡ z
  unfolding filled
  filled_past n z l i h =
      let at : length l + (i - length l) ≡ i = omega arith in
      rw (← at) (get_or-append-add l (replicate (n - length l) z) (i - length l) z ∙ get_or_filled (n - length l) (i - length l) z)

  -- and a list with the filler from n on is its front filled up
  only_filler : (z : A) (l : List A) → ((i : ℕ) → get_or l i z ≡ z) → l ≡ replicate (length l) z
  only_filler z [] past = refl
  only_filler z (x ∷ l) past = ap₂ (λ y t. y ∷ t) (past 0) (only_filler z l (λ i. past (suc i)))

  pub filled_of : (n : ℕ) (z : A) (l : List A) → ((i : ℕ) → n ≤ i → get_or l i z ≡ z) → l ≡ filled (length l) z (take n l)
  unfolding filled
  filled_of zero z l past = simp unary_clauses (only_filler z l (λ i. past i (omega arith)))
  filled_of (suc n) z [] past = refl
  filled_of (suc n) z (x ∷ l) past = simp unary_clauses (ap (λ t. x ∷ t) (filled_of n z l (λ i h. past (suc i) (omega arith))))

  -- a store behind the entries
  pub filled_snoc : (n : ℕ) (z : A) (l : List A) (a : A) → length l < n → set (filled n z l) (length l) a ≡ filled n z (l ++ (a ∷ []))
  unfolding filled
  filled_snoc n z l a h =
      let k = n - (length l + 1) in
      let e : n - length l ≡ suc k = omega arith in
      let e' : n - length (l ++ (a ∷ [])) ≡ k = rw length-append in
      rw (e, e', append_assoc) (set-append_seam l z (replicate k z) a)
