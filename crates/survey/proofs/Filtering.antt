-- A loop over those of the numbers below an end that a test takes, by a filter of a range.
use Rattle.std.proofs.Common.{ℕ, Bool, true, false, List, [], ◌∷◌, ◌≡◌, sym, ◌∙◌, ◌+◌, ◌<◌, ◌≤◌, arith, Option, Some, None, Bor}
use denote.Param.Members.{Mut}
use Rattle.std.specs.contracts.prelude.U16Step.TheImpl as step
use Rattle.std.specs.declared.iter.Filter.{Filter}
use Rattle.std.specs.declared.ops.Range.{Range}
use Rattle.std.specs.Range.{range_steps}
use Rattle.std.specs.Fn.{CalledAt}
use Rattle.std.specs.Iterator.{Yields}
use Rattle.std.specs.Iterator.Adapters.{filter_steps}
use Rattle.std.specs.List.{FoldsTo}

-- the range goes up to the end, the closure is as it was, and P holds of the number that is next
pub record Filtering {F : Type 0} (held : F → Type 0) (P : ℕ → Type 0) (end : ℕ) (s : Range ℕ) (f : F) : Type 0 where
  pub last : s.end ≡ end
  pub within : s.start ≤ end
  pub same : held f
  pub so : P s.start

-- the number i is taken, and then those from i + 1 on are left
pub record Taken {F : Type 0} (held : F → Type 0) (P : ℕ → Type 0) (takes : ℕ → Bool) (end i : ℕ) (t : Filter (Range ℕ) F) : Type 0 where
  pub below : i < end
  pub taken : takes i ≡ true
  pub so : P i
  pub last : t.iter.end ≡ end
  pub next : t.iter.start ≡ i + 1
  pub same : held t.p

-- what a step of the range does
abbrev steps : Range ℕ → Option ℕ → Range ℕ → Type 0
steps = range_steps (step.steps_between-value).it (step.is_successor-value).it

-- P passes over a number that is not taken
abbrev pub Skips : (P : ℕ → Type 0) (end : ℕ) (takes : ℕ → Bool) → Type 0
Skips P end takes = (i : ℕ) → i < end → takes i ≡ false → P i → P (i + 1)

-- the closure says whether a number is taken
abbrev pub Tells : {F : Type 0} (held : F → Type 0) (takes : ℕ → Bool) (g : Mut F (Bor ℕ × Unit {0}) Bool) → Type 0
Tells {F} held takes g = (p q : F) (x : ℕ) (b : Bool) → held p → CalledAt g p x b q → (b ≡ takes x) × held q

module _ {F : Type 0} {held : F → Type 0} {P : ℕ → Type 0} {end : ℕ} (takes : ℕ → Bool) (g : Mut F (Bor ℕ × Unit {0}) Bool) where
  -- the numbers that are passed over
  passed : (xs : List ℕ) (s t : Range ℕ) (f f' : F) → Filtering held P end s f → Yields steps s xs t
      → FoldsTo (λ p x q. CalledAt g p x false q) f xs f' → Skips P end takes → Tells held takes g → Filtering held P end t f'
  passed [] s t f f' at e d skip tells = rw (e, d) at at
  passed (x ∷ xs) s t f f' at (j, one, more) (k, fails, others) skip tells =
      let told = tells f k x false at.same fails in
      passed xs j t k f' (record {
        last = one.0 ∙ at.last;
        within = omega (arith, one.1.0, one.1.2, at.last);
        same = told.1;
        so = rw (sym one.1.2) at (skip s.start (omega (arith, one.1.0, at.last)) (sym (rw one.1.1 at told.0)) at.so);
      }) more others skip tells

  module _ (s t : Filter (Range ℕ) F) (at : Filtering held P end s.iter s.p) where
    -- the next number that is taken
    pub one_taken : (i : ℕ) → filter_steps steps g s (Some i) t → Skips P end takes → Tells held takes g → Taken held P takes end i t
    one_taken i x skip tells =
        let then = passed x.0 _ x.2.0 _ x.1 at x.2.1 x.3 skip tells in
        let told = tells x.1 t.p i true then.same x.4 in
        record {
          below = omega (arith, x.2.2, then.last);
          taken = sym told.0;
          so = rw (sym x.2.2.1.1) at then.so;
          last = x.2.2.0 ∙ then.last;
          next = omega (arith, x.2.2);
          same = told.1;
        }

    -- none is left
    pub none_taken : filter_steps steps g s None t → Skips P end takes → Tells held takes g → P end
    none_taken x skip tells =
        let then = passed x.0 _ x.2.0 _ x.1 at x.2.1 x.3 skip tells in
        let past : x.2.0.start ≡ end = omega (arith, then.last, then.within, x.2.2) in
        rw past at then.so

-- and so on from there
pub go_on : {F : Type 0} {held : F → Type 0} {P Q : ℕ → Type 0} {takes : ℕ → Bool} {end i : ℕ} {t : Filter (Range ℕ) F}
    → Taken held P takes end i t → Q (i + 1) → Filtering held Q end t.iter t.p
go_on one so = record { last = one.last; within = omega (arith, one.below, one.next); same = one.same; so = rw (sym one.next) at so }
