-- What a query has worked already: a table of words, of which some are known.
use Rattle.std.specs.Prelude.{ℕ, Option, Some, None, List, ◌≡◌, get_or}
use Rattle.policy.specs.declared.Policy.{Policy}
use Rattle.policy.specs.declared.Query.{Query}
use Rattle.words.specs.Models.{word_of}

-- each word that is known is that of the decision wanted
pub record Known (p : Policy) (q : Query) (known : List (Option ℕ)) : Type 0 where
  pub right : (w word : ℕ) → get_or known w None ≡ Some word → word ≡ word_of p q w q.want
