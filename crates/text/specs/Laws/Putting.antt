-- Texts put one behind the other; and where there is room, the whole text stands in the buffer.
use Rattle.std.specs.Prelude.{ℕ, zero, suc, ◌+◌, ◌-◌, ◌≤◌, ◌≡◌, refl, List, [], ◌∷◌, ◌++◌, drop}
use Rattle.std.proofs.Common.{sym, ◌∙◌, ap₂, append_assoc, append-nil, add-zero, arith, length-append, length-drop, take-append-drop, take_all, take_at, drop_at, drop-drop, length-take-le}
use Rattle.std.proofs.Math.Path.{ap, subst}
use Rattle.std.proofs.Math.Numerals.{unary_clauses}
use Rattle.std.proofs.Math.ListN.{length, take, length-take}
use Rattle.std.proofs.Math.Seq.{paste-zero, take-nil}
use Rattle.text.specs.Put.{fitting, Puts}

-- the whole text stands behind the first `at` bytes, and the bytes behind it are as before
pub record Stands (before : List ℕ) (at : ℕ) (text after : List ℕ) (end : ℕ) : Type 0 where
  pub long : length after ≡ length before
  pub ends : end ≡ at + length text
  pub holds : take end after ≡ take at before ++ text
  pub rest : drop end after ≡ drop end before

-- a text at the start
pub at_start : {before text after : List ℕ} {end : ℕ} → Stands before 0 text after end → after ≡ text ++ drop (length text) before
at_start {before} {text} {after} {end} s =
    let same : end ≡ length text = omega (arith, s.ends) in
    sym (take-append-drop end after) ∙ ap₂ ◌++◌ s.holds s.rest ∙ ap (λ (k : ℕ). text ++ drop k before) same

-- no text, and a text that has room
stands_none : (before : List ℕ) (at : ℕ) → Stands before at [] (take at before ++ [] ++ drop (at + 0) before) (at + 0)
stands_none before at = subst (λ l. Stands before at [] l (at + 0)) (paste-zero before at []) (record {
  long = refl;
  ends = refl;
  holds = rw (add-zero, append-nil);
  rest = refl;
})

stands_within : (before : List ℕ) (at : ℕ) (text : List ℕ) → at + length text ≤ length before
    → Stands before at text (take at before ++ text ++ drop (at + length text) before) (at + length text)
stands_within before at text room =
    let front = take at before ++ text in
    let end = at + length text in
    let head : length front ≡ end =
    length-append (take at before) text ∙ ap (λ (k : ℕ). k + length text) (length-take-le at before (omega arith)) in
    record {
      long = length-append front (drop end before) ∙ omega (arith, head, length-drop end before);
      ends = refl;
      holds = take_at front (drop end before) end head;
      rest = drop_at front (drop end before) end head;
    }

-- the part of a text that fits
stands_part : (before : List ℕ) (at : ℕ) (text : List ℕ) → length text ≤ length before - at
    → Stands before at text (take at before ++ text ++ drop (at + length text) before) (at + length text)
stands_part before at [] room = stands_none before at
stands_part before at (b ∷ text) room = stands_within before at (b ∷ text) (omega arith)

module _ {before text after : List ℕ} {at end : ℕ} (p : Puts before at text after end) where
  -- as much of it as there is room for
  pub part : Stands before at (fitting before at text) after end
  unfolding fitting
  part =
      let f = take (length before - at) text in
      rw (p.holds, p.ends) (stands_part before at f (omega (arith, length-take (length before - at) text)))

  -- the buffer keeps its length, and the text ends in it where it starts there
  pub same_length : length after ≡ length before
  same_length = part.long

  pub ends_within : at ≤ length before → end ≤ length before
  unfolding fitting
  ends_within h = omega (arith, p.ends, length-take (length before - at) text)

  -- the whole text, where there is room
  pub stands : at + length text ≤ length before → Stands before at text after end
  unfolding fitting
  stands room = subst (λ t. Stands before at t after end) (take_all (length before - at) text (omega arith)) part

  -- the text that is put, in other words
  pub same_text : {t : List ℕ} → text ≡ t → Puts before at t after end
  same_text e = subst (λ t. Puts before at t after end) e p

-- a text at the start of a buffer of a size that is enough for it
pub whole : {before text after : List ℕ} {end : ℕ} (size : ℕ) → length before ≡ size → length text ≤ size → Puts before 0 text after end
    → (take end after ≡ text) × ((end ≤ size) × (length after ≡ size))
whole size long fits put = let all = stands put (omega arith) in (all.holds, (omega (arith, all.ends), all.long ∙ long))

-- nothing is put
pub nothing : (before : List ℕ) (at : ℕ) → Puts before at [] before at
unfolding fitting
nothing before at = record {
  ends = rw take-nil (omega arith);
  holds = rw (take-nil, append-nil, take-append-drop);
}

-- as much of two texts as there is room for
take_both : (n : ℕ) (s t : List ℕ) → take n (s ++ t) ≡ take n s ++ take (n - length (take n s)) t
take_both zero s t = refl
take_both (suc n) [] t = simp unary_clauses refl
take_both (suc n) (b ∷ s) t = simp unary_clauses (ap (λ l. b ∷ l) (take_both n s t))

-- a text, and another behind it
module _ {before mid after s t : List ℕ} {at end last : ℕ} (a : Puts before at s mid end) (b : Puts mid end t after last) where
  both_fit : fitting before at (s ++ t) ≡ fitting before at s ++ fitting mid end t
  unfolding fitting
  both_fit =
      let n = length before - at in
      let left : n - length (take n s) ≡ length mid - end = omega (arith, (part a).long, a.ends) in
      take_both n s t ∙ ap (λ (k : ℕ). take n s ++ take k t) left

  past_both : drop last mid ≡ drop last before
  past_both =
      let k = length (fitting mid end t) in
      rw b.ends (sym (drop-drop k end mid) ∙ ap (drop k) (part a).rest ∙ drop-drop k end before)

  pub both : Puts before at (s ++ t) after last
  both = record {
    ends = rw (both_fit, length-append) (omega (arith, a.ends, b.ends));
    holds = b.holds ∙ rw (both_fit, (part a).holds, past_both) (simp append_assoc);
  }
