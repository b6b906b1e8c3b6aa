-- The text of every query fits 80,000 bytes.
use Rattle.std.specs.Prelude.{ℕ, ◌^◌, ◌≤◌, List, Some, None, Ok, Err}
use Rattle.std.proofs.Math.Decide.{ℕ_discrete}
use Rattle.std.proofs.Common.{arith, length-append}
use Rattle.std.proofs.Math.ListN.{length, length-take}
use Rattle.std.proofs.Math.Pow.{pow_mono}
use Rattle.base.specs.Laws.All.{All}
use Rattle.mask.specs.Laws.Among.{among_at}
use Rattle.policy.specs.declared.Policy.{Policy}
use Rattle.policy.specs.declared.Query.{Query}
use Rattle.policy.specs.Questions.{first_no, query_questions, Accepted}
use Rattle.policy.specs.Laws.{accepted_range}
use Rattle.policy.specs.Refusal.{number_of, refusal_of, refuse}
use Rattle.engine.specs.Calls.{Answer, slim, slim_sets, best, answer, choose_of, fire_of}
use Rattle.engine.specs.Laws.Few.{few_slim, fire_places}
use Rattle.engine.specs.Laws.Refusals.{refused}
use Rattle.format.specs.Text.{decimal}
use Rattle.format.specs.Written.{commas}
use Rattle.format.specs.Laws.Lengths.{decimal_length, ten_digits, commas_length, line_length}
use Rattle.text.specs.Laws.Entries.{refused_length}
use Rattle.results.specs.Printed.{longest_result, answer_text, sets_listed, rules_fired, result_text}
use Rattle.results.specs.Laws.Listed.{lists_slim}

-- the lines of an answer, where its sets take so many bytes and there are at most 128 rules
answer_length : (a : Answer) (sets : List ℕ) (rules : ℕ → List ℕ)
    → length (commas sets) ≤ 77220 → ((s : ℕ) → length (rules s) ≤ 128) → length (answer_text a sets rules) ≤ 79000
unfolding answer_text
answer_length (Err e) sets rules few each = omega (arith, refused_length (number_of e))
answer_length (Ok None) sets rules few each = simp line_length (omega arith)
answer_length (Ok (Some c)) sets rules few each =
    simp (length-append, line_length) (omega (
      arith,
      few,
      ten_digits c.mask,
      ten_digits c.keep,
      ten_digits c.cost,
      ten_digits c.slim,
      each c.mask,
      commas_length 10 (rules c.mask) (λ k m. ten_digits k),
    ))

module _ (p : Policy) (q : Query) where
  -- a set has at most five digits
  sets_length : Accepted p q → length (commas (sets_listed p q)) ≤ 77220
  unfolding slim_sets
  sets_length ok =
      let small = pow_mono (accepted_range p q ok).actions in
      let five : All (λ s. length (decimal s) ≤ 5) (slim_sets p q) =
      λ s m. decimal_length 4 s (omega (arith, small, (among_at (slim p q) (2 ^ p.actions) s m).0)) in
      rw (lists_slim p q ok) (omega (arith, few_slim p q ok, commas_length 5 (slim_sets p q) five))

  rules_length : (s : ℕ) → length (rules_fired p q s) ≤ 128
  unfolding rules_fired
  rules_length s = omega (arith, length-take (fire_of p q s).count (fire_of p q s).rules, fire_places p q s)

  answer_fits : length (answer_text (choose_of p q) (sets_listed p q) (rules_fired p q)) ≤ 79000
  unfolding answer_text choose_of Accepted
  answer_fits = elim (ℕ_discrete (first_no (query_questions p q)) 0) [
    | yes ok ↦ answer_length (choose_of p q) (sets_listed p q) (rules_fired p q) (sets_length ok) rules_length
    | no not ↦ rw (refused (first_no (query_questions p q)) refuse (answer p q (length (slim_sets p q)) (best p q)) not)
        (omega (arith, refused_length (number_of (refusal_of (first_no (query_questions p q))))))
  ]

  pub text_fits : length (result_text p q) ≤ longest_result
  unfolding result_text
  text_fits = simp (length-append, line_length) (omega (arith, ten_digits q.want, answer_fits))
