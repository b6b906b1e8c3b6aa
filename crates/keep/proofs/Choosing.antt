-- The invariant of the search for the mask with the fewest ones, and what a turn does to it.
use Prim.Native.Nat.{ℕ, ◌+◌, ◌≤◌, ◌<◌, zero-le}
use Rattle.std.specs.Prelude.{Bool, true, false, Option as Best, None, Some}
use Rattle.std.specs.Option.{unwrap_or}
use mathlib.Core.Option.{Option, none}
use mathlib.Core.Logic.{◌≢◌}
use Rattle.std.proofs.Common.{◌≡◌, refl, ap, subst, arith}
use Rattle.std.proofs.lemmas.Bool.{leb-true, leb-false, le-leb}
use native.Mathlib.Decide.{le_ind}
use native.Mathlib.Nat.{le_refl, le_antisymm}
use native.Mathlib.Numerals.{add-one}
use lib.Count.{ones}
use Rattle.mask.specs.Family.{lighter, lightest}
use Rattle.mask.specs.Laws.Lightest.{lighter_none, lighter_new, lighter_old, lightest_skip, lightest_more}
use Rattle.keep.specs.Keep.{found_or0}
use Rattle.keep.specs.Search.{no_fewer, Stands, nothing, named}

stands_new : {best : Best ℕ} {o : Option ℕ} → Stands best o → (n : ℕ) → no_fewer best n ≡ false → Stands (Some n) (lighter ones o n)
stands_new nothing n h = rw (lighter_none ones n) (named n)
stands_new (named b) n h = rw (lighter_new ones n b (leb-false _ _ h)) (named n)

stands_old : {best : Best ℕ} {o : Option ℕ} → Stands best o → (n : ℕ) → no_fewer best n ≡ true → Stands best (lighter ones o n)
stands_old nothing n h = cc
stands_old (named b) n h = rw (lighter_old ones n b (leb-true _ _ h)) (named b)

pub stands_is : {best : Best ℕ} {o : Option ℕ} → Stands best o → unwrap_or best 0 ≡ found_or0 o
unfolding found_or0
stands_is nothing = refl
stands_is (named b) = refl

-- the first n sets are looked at
pub record Choosing (takes : ℕ → Bool) (sets n : ℕ) (best : Best ℕ) : Type 0 where
  pub within : n ≤ sets
  pub stands : Stands best (lightest takes ones n)

pub choosing_none : (takes : ℕ → Bool) (sets : ℕ) → Choosing takes sets 0 None
unfolding lightest
choosing_none takes sets = record { within = zero-le; stands = nothing }

module _ {takes : ℕ → Bool} {sets n : ℕ} {best : Best ℕ} (so : Choosing takes sets n best) (below : n < sets) where
  -- the next set is not one of those looked for
  pub choosing_skip : takes n ≡ false → Choosing takes sets (n + 1) best
  choosing_skip e = record { within = omega arith; stands = rw (lightest_skip takes ones n e) so.stands }

  -- or it has fewer actions
  pub choosing_new : takes n ≡ true → no_fewer best n ≡ false → Choosing takes sets (n + 1) (Some n)
  choosing_new e h = record { within = omega arith; stands = rw (lightest_more takes ones n e) (stands_new so.stands n h) }

  -- or as many or more, and need not be looked at
  pub choosing_old : no_fewer best n ≡ true → Choosing takes sets (n + 1) best
  choosing_old l = case (takes n) refl
    where
      case : (b : Bool) → takes n ≡ b → Choosing takes sets (n + 1) best
      case true e = record { within = omega arith; stands = rw (lightest_more takes ones n e) (stands_old so.stands n l) }
      case false e = choosing_skip e

-- several sets that have as many actions or more are passed over
pub choosing_leap : {takes : ℕ → Bool} {sets n : ℕ} {best : Best ℕ} → Choosing takes sets n best → (m : ℕ) → n ≤ m → m ≤ sets
    → ((t : ℕ) → n ≤ t → t < m → no_fewer best t ≡ true) → Choosing takes sets m best
choosing_leap {takes} {sets} {n} {best} so m h l more =
    le_ind (λ (k : ℕ). k ≤ m → Choosing takes sets k best) (λ le. so)
    (λ (k : ℕ) (g : n ≤ k) ih le. subst (λ (i : ℕ). Choosing takes sets i best) (add-one k)
    (choosing_old (ih (omega arith)) (omega arith) (more k g le)))
    m h (le_refl m)

-- a mask with no fewer actions than one that has no fewer than the best
pub no_fewer_more : (best : Best ℕ) (n t : ℕ) → no_fewer best n ≡ true → ones n ≤ ones t → no_fewer best t ≡ true
no_fewer_more None n t h l = h
no_fewer_more (Some b) n t h l = le-leb _ _ (omega (arith, leb-true (ones b) (ones n) h))

-- the empty set is not passed over
none_first : {best : Best ℕ} {o : Option ℕ} (n : ℕ) → Stands best o → no_fewer best n ≡ true → o ≡ none → ⊥
none_first n nothing h e = cc
none_first n (named b) h e = cc

pub choosing_first : {takes : ℕ → Bool} {sets n : ℕ} {best : Best ℕ} → Choosing takes sets n best → no_fewer best n ≡ true → n ≢ 0
unfolding lightest
choosing_first {takes} {sets} {n} {best} so h e = none_first n so.stands h (ap (lightest takes ones) e)

pub choosing_all : {takes : ℕ → Bool} {sets n : ℕ} {best : Best ℕ} → Choosing takes sets n best → sets ≤ n
    → Stands best (lightest takes ones sets)
choosing_all so past = rw (le_antisymm so.within past) at so.stands
