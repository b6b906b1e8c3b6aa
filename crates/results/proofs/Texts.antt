-- The text of a result is the text of its query.
use Prim.Native.Nat.{ℕ, zero, suc}
use mathlib.Core.Path.{◌≡◌, refl, sym, ◌∙◌, ap}
use mathlib.Core.List.{List, [], ◌++◌}
use lib.ListN.{length, take, drop, replicate, length-replicate}
use lib.Seq.{take-append_seam}
use Rattle.policy.specs.declared.Policy.{Policy}
use Rattle.policy.specs.declared.Query.{Query}
use Rattle.policy.specs.Questions.{first_no}
use Rattle.std.proofs.Common.{Option, Some, None, Result, Ok, Err}
use Rattle.policy.specs.declared.refusal.Refusal.{Refusal}
use Rattle.policy.specs.Refusal.{refuse}
use Rattle.engine.specs.declared.Firing.{Firing}
use Rattle.engine.specs.Sets.{most_slim}
use Rattle.engine.specs.Calls.{refused_or, slim_sets, list_questions, list_of, list_after}
use Rattle.format.specs.Text.{ascii, decimal}
use Rattle.format.specs.Written.{line_of}
use Rattle.results.specs.declared.Best.{Best}
use Rattle.results.specs.declared.QueryResult.{QueryResult}
use Rattle.results.specs.Laws.Worked.{chosen, ForBest, Answered, Worked, worked_text}
use Rattle.results.specs.Printed.{written, answer_text, sets_listed, rules_fired, result_text}

-- the entries of the lent list below the number of those written
below : (sets before : List ℕ) (n : ℕ)
    → take (written (refused_or n refuse (Ok (length sets)))) (refused_or n (λ _. before) (sets ++ drop (length sets) before))
    ≡ refused_or n (λ _. []) sets
unfolding written refused_or
below sets before zero = take-append_seam sets (drop (length sets) before)
below sets before (suc n) = refl

module _ (p : Policy) (q : Query) where
  -- they depend on the number of its places alone
  lent : (before : List ℕ) (places : ℕ) → length before ≡ places
      → take (written (list_of p q places)) (list_after p q before) ≡ refused_or (first_no (list_questions p q places)) (λ _. []) (slim_sets p q)
  unfolding list_of list_after
  lent before places e =
      let s = slim_sets p q in
      let n = written (list_of p q places) in
      ap (λ (k : ℕ). take n (refused_or (first_no (list_questions p q k)) (λ _. before) (s ++ drop (length s) before))) e
      ∙ below s before (first_no (list_questions p q places))

  -- so they are those of the definition
  lent_same : (before : List ℕ) → length before ≡ most_slim → take (written (list_of p q most_slim)) (list_after p q before) ≡ sets_listed p q
  unfolding sets_listed
  lent_same before e = lent before most_slim e ∙ sym (lent (replicate most_slim 0) most_slim (length-replicate {A = ℕ} most_slim 0))

  -- where Choose names a set, the sets listed and the rules fired are those of the definition
  listed_same : (b : Best) (before after : List ℕ) → length before ≡ most_slim → ForBest p q b before after
      → take (written b.listing) after ≡ sets_listed p q
  listed_same b before after e f = rw (f.listing, f.listed, e) (lent_same before e)

  fired_same : (b : Best) (before after : List ℕ) → ForBest p q b before after
      → take b.firing.count b.firing.rules ≡ rules_fired p q b.choice.mask
  unfolding rules_fired
  fired_same b before after f = ap (λ (x : Firing). take x.count x.rules) f.firing

  -- the lines of an answer are those of what Choose returns
  lines_same : (before after : List ℕ) → length before ≡ most_slim → (a : Result (Option Best) Refusal) → Answered p q a before after
      → worked_text a after ≡ answer_text (chosen a) (sets_listed p q) (rules_fired p q)
  unfolding answer_text
  lines_same before after e (Err n) w = refl
  lines_same before after e (Ok None) w = refl
  lines_same before after e (Ok (Some b)) w =
      let f = w.best b refl in
      rw (listed_same b before after e f, fired_same b before after f) refl

  -- the text of a result
  pub same_result : (r : QueryResult) (before after : List ℕ) → length before ≡ most_slim → Worked p q r before after
      → line_of (ascii "want") (decimal r.want) ++ worked_text r.answer after ≡ result_text p q
  unfolding result_text
  same_result r before after e w = rw (w.want, ← w.answered.answer, lines_same before after e r.answer w.answered) refl
