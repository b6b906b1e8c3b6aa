-- What is promised of a call that hands out text i, by what it does: it puts the text, or leaves the buffer as it is.
use Rattle.std.specs.Prelude.{ℕ, Option, Some, None, zero, suc, ◌-◌, ◌≤◌, ◌<◌, List, [], ◌∷◌, map, ◌≡◌, refl, get_or, take}
use Rattle.std.proofs.Common.{zero-le, sym, ◌∙◌, ap}
use Rattle.std.proofs.Math.Path.{subst}
use borrow.Author.Tests.{lt-ltb, le-ltb}
use native.Mathlib.Omega.{arith}
use Rattle.std.proofs.Math.ListN.{length}
use Rattle.std.proofs.lemmas.List.{length-map}
use Rattle.std.specs.Slice.{IsItemAt}
use Rattle.std.specs.Borrow.{Bor}
use Rattle.text.specs.Put.{fitting, Puts}
use Rattle.text.specs.Laws.Putting.{Stands, part as fitted, at_start, same_text}
use Rattle.text.specs.Handing.{text_at, Hands, handed_out, held_after}

-- the three promises
abbrev pub Promised : List (List ℕ) → ℕ → List ℕ → List ℕ → Option ℕ → Type 0
Promised texts i before after r = record {
  value : r ≡ handed_out texts i (length before);
  buffer_after : after ≡ held_after texts i before;
  hands : Hands texts i before after r;
}

module _ (texts : List (List ℕ)) (i : ℕ) (before : List ℕ) where
  pub text_put : {after : List ℕ} {n : ℕ} → i < length texts → Puts before 0 (text_at texts i) after n
      → Promised texts i before after (Some n)
  unfolding handed_out held_after fitting
  text_put {after} {n} h p =
      let room : length before - 0 ≡ length before = omega arith in
      let s = subst (λ (k : ℕ). Stands before 0 (take k (text_at texts i)) after n) room (fitted p) in
      let ends : n ≡ length (take (length before) (text_at texts i)) = omega (arith, s.ends) in
      let there = lt-ltb i (length texts) h in
      record {
        value = rw (there, handed_out) (ap Some ends);
        buffer_after = rw (there, held_after) (at_start s);
        hands = (h, ends, s.holds, s.rest);
      }

  pub none_left : length texts ≤ i → Promised texts i before before None
  unfolding handed_out held_after
  none_left h =
      let gone = le-ltb i (length texts) h in
      record { value = rw (gone, handed_out) refl; buffer_after = rw (gone, held_after) refl; hands = (h, refl) }

-- one text alone
module _ (text : List ℕ) (i : ℕ) (before : List ℕ) where
  pub only_put : {after : List ℕ} {n : ℕ} → i ≡ 0 → Puts before 0 text after n → Promised (text ∷ []) i before after (Some n)
  only_put e p = text_put (text ∷ []) i before (omega arith) (same_text p (rw e refl))

  pub only_once : ¬ (i ≡ 0) → Promised (text ∷ []) i before before None
  only_once some = none_left (text ∷ []) i before (omega arith)

-- a text for each entry of a list
pub map_at : {A B : Type 0} (f : A → B) (d : A) (e : B) (l : List A) (i : ℕ) → i < length l → get_or (map f l) i e ≡ f (get_or l i d)
map_at f d e [] i h = absurd (omega arith)
map_at f d e (x ∷ l) zero h = refl
map_at f d e (x ∷ l) (suc i) h = map_at f d e l i (omega arith)

module _ {A : Type 0} (f : A → List ℕ) {l xs : List A} (same : l ≡ xs) (i : ℕ) (before : List ℕ) where
  pub each_over : IsItemAt l i None → Promised (map f xs) i before before None
  each_over got = none_left (map f xs) i before (omega (arith, length-map xs f, ap length same, got.3))

  pub each_put : (x : Bor A) {after : List ℕ} {n : ℕ} → IsItemAt l i (Some x) → Puts before 0 (f x.now) after n
      → Promised (map f xs) i before after (Some n)
  each_put x got put =
      let here : get_or xs i x.now ≡ x.now = sym (got.1 ∙ ap (λ (ys : List A). get_or ys i x.now) same) in
      let under : i < length xs = omega (arith, ap length same, got.3.0) in
      text_put (map f xs) i before (omega (arith, under, length-map xs f)) (same_text put (sym (map_at f x.now [] xs i under ∙ ap f here)))

-- texts that are no longer than a size: one alone, and one for each entry
pub only_fits : (size : ℕ) (text : List ℕ) (i : ℕ) → length text ≤ size → length (text_at (text ∷ []) i) ≤ size
only_fits size text zero h = h
only_fits size text (suc i) h = zero-le

pub each_fits : {A : Type 0} (size : ℕ) (f : A → List ℕ) → ((x : A) → length (f x) ≤ size) → (l : List A) (i : ℕ)
    → length (text_at (map f l) i) ≤ size
each_fits size f fits [] i = zero-le
each_fits size f fits (x ∷ l) zero = fits x
each_fits size f fits (x ∷ l) (suc i) = each_fits size f fits l i
