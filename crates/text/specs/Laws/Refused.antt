-- Texts that are the line of a refusal alone, where there is one: what is shown of it, or of the others where there is none, holds.
use Rattle.std.specs.Prelude.{ℕ, Option, zero, suc, ◌≤◌, List, [], ◌∷◌, ◌≡◌, refl, length}
use Rattle.std.proofs.Common.{arith}
use Rattle.policy.specs.Questions.{refused_or}
use Rattle.text.specs.Put.{refused_text}
use Rattle.text.specs.Handing.{text_at}
use Rattle.text.specs.Laws.Entries.{refused_length}
use Rattle.text.specs.Laws.Handed.{Promised, only_fits}

-- the texts, by the number of the refusal or 0
abbrev pub refused_else : ℕ → List (List ℕ) → List (List ℕ)
refused_else n texts = refused_or n (λ k. refused_text k ∷ []) texts

pub promised_refused : (n : ℕ) (texts : List (List ℕ)) (i : ℕ) (before after : List ℕ) (p : Option ℕ) → ¬ (n ≡ 0)
    → Promised (refused_text n ∷ []) i before after p → Promised (refused_else n texts) i before after p
unfolding refused_or
promised_refused zero texts i before after p some h = absurd (some refl)
promised_refused (suc n) texts i before after p some h = h

pub promised_else : (n : ℕ) (texts : List (List ℕ)) (i : ℕ) (before after : List ℕ) (p : Option ℕ) → n ≡ 0
    → Promised texts i before after p → Promised (refused_else n texts) i before after p
unfolding refused_or
promised_else zero texts i before after p none h = h
promised_else (suc n) texts i before after p none h = absurd (omega (arith, none))

pub refused_fits : (size n : ℕ) (texts : List (List ℕ)) → 19 ≤ size → (n ≡ 0 → (i : ℕ) → length (text_at texts i) ≤ size)
    → (i : ℕ) → length (text_at (refused_else n texts) i) ≤ size
unfolding refused_or
refused_fits size zero texts room fits i = fits refl i
refused_fits size (suc n) texts room fits i = only_fits size (refused_text (suc n)) i (omega (arith, room, refused_length (suc n)))

pub refused_few : (most n : ℕ) (texts : List (List ℕ)) → 1 ≤ most → (n ≡ 0 → length texts ≤ most) → length (refused_else n texts) ≤ most
unfolding refused_or
refused_few most zero texts one few = few refl
refused_few most (suc n) texts one few = one
