-- The texts of `reprice` by what the reader returns for both files.
use Prim.Native.Nat.{ℕ}
use mathlib.Core.Bool.{Bool, true, false}
use mathlib.Core.List.{List, [], ◌∷◌, map}
use mathlib.Core.Path.{◌≡◌, sym, ◌∙◌, ap₂, subst}
use Rattle.alike.specs.Comparable.{comparable}
use Rattle.std.proofs.Common.{Option, Some, None}
use Rattle.policy.specs.declared.Query.{Query}
use Rattle.policy.specs.Record.{asked_of}
use Rattle.policy.specs.declared.Policy.{Policy}
use Rattle.policy.specs.declared.Queries.{Queries}
use Rattle.policy.specs.declared.refusal.Refusal.{Refusal}
use Rattle.policy.specs.Refusal.{number_of, outcome}
use Rattle.policy.specs.Questions.{refused_or, check_record_of, queries_in_range}
use Rattle.policy.specs.Laws.{first_no_few}
use Rattle.policy.specs.Laws.Refusals.{number_of_refusal}
use Rattle.std.proofs.lemmas.Option.{none-some, same_Some}
use Rattle.std.specs.Result.{result_err}
use Rattle.std.specs.Option.{option_map}
use Rattle.std.proofs.Common.{Result, ap, arith, ◌≤◌, zero, suc, refl}
use Rattle.text.specs.Put.{refused_text}
use Rattle.text.specs.Laws.Handed.{Promised}
use Rattle.text.specs.Laws.Refused.{promised_refused, promised_else}
use Rattle.reader.specs.declared.Reading.{Reading}
use Rattle.reader.specs.File.{read_of}
use Rattle.pairs.specs.Laws.Fits.{texts}
use Rattle.pairs.specs.Texts.{query_text, apart_text, refusal_of, pair_texts, reprice_texts}

-- the number that questions 3 to 6 refuse by
pub record_refused : (p : Policy) (qs : Queries) {r : Result (Unit {0}) Refusal} {o : Option Refusal} {n : Option ℕ}
    → r ≡ outcome (check_record_of p qs) → o ≡ result_err r → n ≡ option_map number_of o → n ≡ refused_or (check_record_of p qs) Some None
unfolding outcome refused_or check_record_of
record_refused p qs {r} {o} {n} asked err number = go (check_record_of p qs) (first_no_few p (queries_in_range p qs)) asked
  where
    go : (k : ℕ) → k ≤ 6 → r ≡ outcome k → n ≡ refused_or k Some None
    go zero few e = rw (number, err, e)
    go (suc k) few e = rw (number, err, e) (ap Some (number_of_refusal (suc k) (λ z. omega arith) (omega arith)))

-- what such a number says, and that there is none
pub some_refused : (k : ℕ) {n : ℕ} → Some n ≡ refused_or k Some None → (n ≡ k) × (¬ (n ≡ 0))
unfolding refused_or
some_refused zero e = absurd (none-some _ (sym e))
some_refused (suc k) {n} e = let same = same_Some n (suc k) e in (same, λ z. omega (arith, same))

pub none_refused : (k : ℕ) {o : Option ℕ} → o ≡ refused_or k Some None → ((n : ℕ) → o ≡ Some n → ⊥) → k ≡ 0
unfolding refused_or
none_refused zero e not = refl
none_refused (suc k) e not = absurd (not (suc k) e)

module _ (s s' : List ℕ) {r r' : Reading} (read : r ≡ read_of s) (read' : r' ≡ read_of s') (i : ℕ) (before after : List ℕ) (p : Option ℕ) where
  -- what is promised of the texts of what the reader returns is promised of the files'
  of_readings : Promised (pair_texts r r') i before after p → Promised (reprice_texts s s') i before after p
  unfolding reprice_texts
  of_readings h = subst (λ t. Promised t i before after p) (ap₂ pair_texts read read') h

  pub of_refused : {n : ℕ} → n ≡ refusal_of r r' → ¬ (n ≡ 0) → Promised (refused_text n ∷ []) i before after p
      → Promised (reprice_texts s s') i before after p
  unfolding pair_texts
  of_refused e some h =
      of_readings (promised_refused (refusal_of r r') _ i before after p (λ z. some (e ∙ z))
      (subst (λ n. Promised (refused_text n ∷ []) i before after p) e h))

  module _ (none : refusal_of r r' ≡ 0) where
    -- of those by whether the policies can be compared
    of_compared : (b : Bool) → comparable r.policy r'.policy ≡ b → Promised (texts r r' b) i before after p
        → Promised (reprice_texts s s') i before after p
    unfolding pair_texts
    of_compared b e h =
        of_readings (promised_else (refusal_of r r') _ i before after p none (subst (λ t. Promised (texts r r' t) i before after p) (sym e) h))

    pub of_apart : comparable r.policy r'.policy ≡ false → Promised (apart_text ∷ []) i before after p
        → Promised (reprice_texts s s') i before after p
    of_apart e h = of_compared false e h

    pub of_queries : comparable r.policy r'.policy ≡ true → {qs : List Query} → qs ≡ asked_of r.queries
        → Promised (map (query_text r.policy r'.policy) qs) i before after p → Promised (reprice_texts s s') i before after p
    of_queries e asked h =
        of_compared true e (subst (λ l. Promised (map (query_text r.policy r'.policy) l) i before after p) asked h)
