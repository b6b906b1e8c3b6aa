-- What `reprice` prints for the bytes of two files: a refusal, that they are not comparable, or for each query of the first the least
-- costs by both.
use Rattle.std.specs.Prelude.{ℕ, true, false, List, [], ◌∷◌, ◌++◌, map, take, Some, None}
use Rattle.policy.specs.declared.Policy.{Policy}
use Rattle.policy.specs.declared.Query.{Query}
use Rattle.engine.specs.Calls.{refused_or, check_record_of}
use Rattle.alike.specs.Comparable.{comparable}
use Rattle.repricing.specs.declared.Prices.{Prices}
use Rattle.repricing.specs.Call.{Price, prices}
use Rattle.format.specs.Text.{ascii, decimal}
use Rattle.format.specs.Written.{line_of}
use Rattle.text.specs.Put.{refused_text}
use Rattle.reader.specs.declared.Reading.{Reading}
use Rattle.reader.specs.File.{read_of}

-- no text is longer, as Laws.Fits shows
abbrev pub longest_prices : ℕ
longest_prices = 64

-- a cost, or none
unfoldable pub price_text : Price → List ℕ
price_text None = ascii "none"
price_text (Some n) = decimal n

-- the lines of a query, by what it wants and the two costs
unfoldable pub prices_text : ℕ → Prices → List ℕ
prices_text want c =
    line_of (ascii "want") (decimal want)
    ++ (line_of (ascii "before") (price_text c.before) ++ line_of (ascii "after") (price_text c.after))

abbrev pub query_text : Policy → Policy → Query → List ℕ
query_text p p' q = prices_text q.want (prices p p' q)

-- the line for policies that cannot be compared
unfoldable pub apart_text : List ℕ
apart_text = ascii "not comparable\n"

module _ (r r' : Reading) where
  -- the number of the first question answered no, or 0: the first file's, the second's, and then questions 3 to 6 of the second's
  -- policy with the first's queries
  unfoldable pub refusal_of : ℕ
  refusal_of = refused_or r.refusal (λ n. n) (refused_or r'.refusal (λ n. n) (check_record_of r'.policy r.queries))

  -- the texts of what is read
  unfoldable pub pair_texts : List (List ℕ)
  pair_texts = refused_or refusal_of (λ n. refused_text n ∷ [])
      (elim (comparable r.policy r'.policy) [
        | true ↦ map (query_text r.policy r'.policy) (take r.queries.count r.queries.at)
        | false ↦ apart_text ∷ []
      ])

-- and of two files
unfoldable pub reprice_texts : List ℕ → List ℕ → List (List ℕ)
reprice_texts s s' = pair_texts (read_of s) (read_of s')
