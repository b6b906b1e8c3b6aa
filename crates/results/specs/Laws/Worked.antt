-- What is worked out of a query, and its lines.
use Rattle.std.specs.Prelude.{ℕ, ◌≡◌, List, length, take, Option, Some, None, Result, Ok, Err}
use Rattle.policy.specs.declared.Policy.{Policy}
use Rattle.policy.specs.declared.Query.{Query}
use Rattle.policy.specs.declared.refusal.Refusal.{Refusal}
use Rattle.policy.specs.Refusal.{number_of}
use Rattle.engine.specs.Calls.{Answer, choose_of, list_of, list_after, fire_of}
use Rattle.format.specs.Text.{ascii}
use Rattle.format.specs.Written.{line_of}
use Rattle.text.specs.Put.{refused_text}
use Rattle.results.specs.declared.Best.{Best}
use Rattle.results.specs.declared.QueryResult.{QueryResult}
use Rattle.results.specs.Printed.{written, answer_text}

-- what Choose answered
abbrev pub chosen : Result (Option Best) Refusal → Answer
chosen (Err e) = Err e
chosen (Ok None) = Ok None
chosen (Ok (Some b)) = Ok (Some b.choice)

-- what List and Fire return where Choose names a set, the lent list before and after
pub record ForBest (p : Policy) (q : Query) (b : Best) (before after : List ℕ) : Type 0 where
  pub listing : b.listing ≡ list_of p q (length before)
  pub listed : after ≡ list_after p q before
  pub firing : b.firing ≡ fire_of p q b.choice.mask

-- the answer is what the calls return
pub record Answered (p : Policy) (q : Query) (a : Result (Option Best) Refusal) (before after : List ℕ) : Type 0 where
  pub answer : chosen a ≡ choose_of p q
  pub best : (b : Best) → a ≡ Ok (Some b) → ForBest p q b before after

-- the result of a query is what the calls return
pub record Worked (p : Policy) (q : Query) (r : QueryResult) (before after : List ℕ) : Type 0 where
  pub want : r.want ≡ q.want
  pub answered : Answered p q r.answer before after

-- the lines of an answer, where these are the places that were lent
abbrev pub worked_text : Result (Option Best) Refusal → List ℕ → List ℕ
worked_text (Err e) places = refused_text (number_of e)
worked_text (Ok None) places = line_of (ascii "best") (ascii "none")
worked_text (Ok (Some b)) places =
    answer_text (Ok (Some b.choice)) (take (written b.listing) places) (λ _. take b.firing.count b.firing.rules)
