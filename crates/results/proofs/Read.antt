-- What is promised of the texts of what the reader returns is promised of the file's.
use Rattle.std.specs.Prelude.{ℕ, Option, List, [], ◌∷◌, ◌≡◌, map}
use Rattle.std.proofs.Math.Path.{subst}
use Rattle.policy.specs.declared.Query.{Query}
use Rattle.policy.specs.Record.{asked_of}
use Rattle.text.specs.Put.{refused_text}
use Rattle.text.specs.Laws.Handed.{Promised}
use Rattle.text.specs.Laws.Refused.{promised_refused, promised_else}
use Rattle.reader.specs.declared.Reading.{Reading}
use Rattle.reader.specs.File.{read_of}
use Rattle.results.specs.Printed.{result_text, reading_texts, clear_texts}

module _ (s : List ℕ) {r : Reading} (read : r ≡ read_of s) (i : ℕ) (before after : List ℕ) (p : Option ℕ) where
  of_reading : Promised (reading_texts r) i before after p → Promised (clear_texts s) i before after p
  unfolding clear_texts
  of_reading h = subst (λ x. Promised (reading_texts x) i before after p) read h

  -- the file is refused
  pub refused_alone : ¬ (r.refusal ≡ 0) → Promised (refused_text r.refusal ∷ []) i before after p → Promised (clear_texts s) i before after p
  unfolding reading_texts
  refused_alone some h = of_reading (promised_refused r.refusal _ i before after p some h)

  -- or it has queries
  pub of_queries : r.refusal ≡ 0 → {qs : List Query} → qs ≡ asked_of r.queries → Promised (map (result_text r.policy) qs) i before after p
      → Promised (clear_texts s) i before after p
  unfolding reading_texts
  of_queries none asked h =
      of_reading (promised_else r.refusal _ i before after p none (subst (λ l. Promised (map (result_text r.policy) l) i before after p) asked h))
