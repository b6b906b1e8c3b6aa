-- Arrays made by a closure: what holds of each call's result holds of each entry.
use Rattle.std.proofs.Common.{◌≡◌, refl, ℕ, zero, suc, ◌+◌, ◌<◌, List, arith, get_or, subst, sym, add-zero, zero-add}
use Rattle.std.specs.Array.{IsFromFnResult, IsFromFnResultFrom}
use Rattle.std.specs.Fn.{Called}
use denote.Param.Members.{Mut}
use Rattle.base.specs.Lists.{table}
use Rattle.base.specs.Laws.Tables.{table_only}

-- a closure whose results are as P says, and that is left as it was
module _ {F : Type 0} (g : Mut F (ℕ × Unit {0}) ℕ) (P : ℕ → ℕ → Type 0) {f : F}
    (gives : (i y : ℕ) (q : F) → Called g f (i, tt) y q → P i y × (q ≡ f)) where
  entries : (ys : List ℕ) (m k : ℕ) (p : F) → p ≡ f → IsFromFnResultFrom g p ys k m → (i : ℕ) → i < m → P (k + i) (get_or ys (k + i) 0)
  entries ys zero k p e so i h = absurd (omega arith)
  entries ys (suc m) k p e so zero h =
      rw add-zero (subst (P k) (sym (so.2.1 0)) (gives k so.1 so.0 (subst (λ (x : F). Called g x (k, tt) so.1 so.0) e so.3)).0)
  entries ys (suc m) k p e so (suc i) h =
      let one = gives k so.1 so.0 (subst (λ (x : F). Called g x (k, tt) so.1 so.0) e so.3) in
      let next : (k + 1) + i ≡ k + suc i = omega arith in
      subst (λ (j : ℕ). P j (get_or ys j 0)) next (entries ys m (k + 1) so.0 one.1 so.4 i (omega arith))

  pub each_made : {ys : List ℕ} {n : ℕ} → IsFromFnResult g f ys n → (i : ℕ) → i < n → P i (get_or ys i 0)
  each_made {ys} {n} so i h = rw zero-add at (entries ys n 0 f refl so.each i h)

-- the array made of `value` at each index is the table of the values
pub made : {F : Type 0} (g : Mut F (ℕ × Unit {0}) ℕ) (value : ℕ → ℕ) {f : F}
    → ((i y : ℕ) (q : F) → Called g f (i, tt) y q → (y ≡ value i) × (q ≡ f))
    → {ys : List ℕ} {n : ℕ} → IsFromFnResult g f ys n → ys ≡ table n value
made g value gives {ys} {n} so = table_only n value ys so.long (each_made g (λ i y. y ≡ value i) gives so)
