-- Policies that are answered alike: entries past a count are ignored, and other levels that fit change no answer.
use Rattle.std.specs.Prelude.{ℕ, List, ◌≡◌}
use Rattle.policy.specs.declared.Policy.{Policy}
use Rattle.policy.specs.declared.Query.{Query}
use Rattle.policy.specs.declared.Queries.{Queries}
use Rattle.strata.specs.Levels.{found_levels}
use Rattle.engine.specs.Calls.{check_of, check_record_of, judge_of, fire_of, choose_of, list_of, list_after}
use Rattle.engine.specs.Words.{words_of}

-- both policies answer the query alike; Fire may show other rules. So it is where both are accepted and only their levels
-- differ (`same_answers` in Laws/Levelled).
pub record SameAnswers (p p' : Policy) (q : Query) : Type 0 where
  pub judge : (s : ℕ) → judge_of p q s ≡ judge_of p' q s
  pub choose : choose_of p q ≡ choose_of p' q
  pub list : (places : ℕ) → list_of p q places ≡ list_of p' q places
  pub after : (before : List ℕ) → list_after p q before ≡ list_after p' q before
  pub words : (w : ℕ) → words_of p q w ≡ words_of p' q w

-- every call returns the same for both. So it is where both agree below their counts (`ignored` in Laws/Ignored).
pub record Ignored (p p' : Policy) : Type 0 where
  pub check : check_of p ≡ check_of p'
  pub checked : (qs : Queries) → check_record_of p qs ≡ check_record_of p' qs
  pub levels : found_levels p ≡ found_levels p'
  pub answers : (q : Query) → SameAnswers p p' q
  pub fire : (q : Query) (s : ℕ) → fire_of p q s ≡ fire_of p' q s
