-- What is said of a mended file holds of every file.
use Rattle.std.specs.Prelude.{ℕ, ◌<◌, true, List, ◌≡◌}
use Rattle.base.specs.Laws.Tests.{is_true}
use Rattle.policy.specs.Questions.{weights_fit}
use Rattle.strata.specs.Laws.Levels.{finds_levels}
use Rattle.engine.specs.Same.{SameAnswers}
use Rattle.engine.specs.Laws.Levelled.{found_for, found_alike}
use Rattle.format.specs.Written.{file_of}
use Rattle.reader.specs.File.{draft_of, read_of}
use Rattle.reader.specs.Claim.{AcceptedFile, query_of}
use Rattle.reader.specs.Mends.{found, mended, Mends}
use Rattle.reader.specs.Laws.Files.{draft_of_accepted}
use Rattle.reader.specs.Laws.States.{states, stated_answers, query_accepted}
use Rattle.reader.specs.Laws.Levels.{levels_put}

module _ (s : List ℕ) where
  read : (draft_of s).refusal ≡ 0 → (found s).refusal ≡ 0 → weights_fit (draft_of s).policy ≡ true
      → read_of (file_of (mended s).policy (mended s).queries.count (mended s).queries.at) ≡ mended s
  read draft none weights =
      let low = (finds_levels (draft_of s).policy).found none in
      levels_put s (found s).level draft (record { places = low.places; small = λ d h. low.range d; zeros = low.past })
      (is_true _ low.fit) weights

  finds : AcceptedFile s → (found s).refusal ≡ 0
  finds ok = rw (draft_of_accepted s ok) (found_for (read_of s).policy (stated_answers (states s ok) true tt))

  alike : AcceptedFile s → (i : ℕ) → i < (read_of s).queries.count
      → SameAnswers (read_of s).policy (mended s).policy (query_of (read_of s) i)
  alike ok i h = rw (draft_of_accepted s ok) (found_alike (read_of s).policy (query_of (read_of s) i) (query_accepted (states s ok) i h))

pub mends : (s : List ℕ) → Mends s
mends s = record { read = read s; finds = finds s; alike = alike s }
