-- What `clear` prints for a file's bytes: its refusal, or for each query a text, what the calls return for it in lines.
use Rattle.std.specs.Prelude.{ℕ, List, [], ◌∷◌, ◌++◌, map, take, replicate, Some, None, Ok, Err}
use Rattle.policy.specs.declared.Policy.{Policy}
use Rattle.policy.specs.declared.Query.{Query}
use Rattle.policy.specs.Refusal.{number_of}
use Rattle.engine.specs.Sets.{most_slim}
use Rattle.engine.specs.Calls.{Answer, Listing, refused_or, choose_of, list_of, list_after, fire_of}
use Rattle.format.specs.Text.{ascii, decimal}
use Rattle.format.specs.Written.{line_of, commas}
use Rattle.text.specs.Put.{refused_text}
use Rattle.reader.specs.declared.Reading.{Reading}
use Rattle.reader.specs.File.{read_of}

-- no query's text is longer, as Laws.Fits shows
abbrev pub longest_result : ℕ
longest_result = 80000

-- how many sets List wrote
unfoldable pub written : Listing → ℕ
written (Err e) = 0
written (Ok n) = n

-- the lines of an answer, where List wrote these sets and Fire names these rules for a set
unfoldable pub answer_text : Answer → List ℕ → (ℕ → List ℕ) → List ℕ
answer_text (Err e) sets rules = refused_text (number_of e)
answer_text (Ok None) sets rules = line_of (ascii "best") (ascii "none")
answer_text (Ok (Some c)) sets rules =
    line_of (ascii "best") (decimal c.mask)
    ++ (line_of (ascii "keep") (decimal c.keep)
    ++ (line_of (ascii "cost") (decimal c.cost)
    ++ (line_of (ascii "slim") (decimal c.slim)
    ++ (line_of (ascii "list") (commas sets)
    ++ line_of (ascii "fired") (commas (rules c.mask))))))

module _ (p : Policy) (q : Query) where
  -- the sets that List writes into 12,870 places: the entries below the number that it returns
  unfoldable pub sets_listed : List ℕ
  sets_listed = take (written (list_of p q most_slim)) (list_after p q (replicate most_slim 0))

  -- the rules that Fire names for a set: the entries below its count
  unfoldable pub rules_fired : ℕ → List ℕ
  rules_fired s = take (fire_of p q s).count (fire_of p q s).rules

  -- the text of the query
  unfoldable pub result_text : List ℕ
  result_text = line_of (ascii "want") (decimal q.want) ++ answer_text (choose_of p q) sets_listed rules_fired

-- the texts of what is read: the refusal, or the text of each query
unfoldable pub reading_texts : Reading → List (List ℕ)
reading_texts r = refused_or r.refusal (λ n. refused_text n ∷ [])
    (map (result_text r.policy) (take r.queries.count r.queries.at))

-- and of a file
unfoldable pub clear_texts : List ℕ → List (List ℕ)
clear_texts s = reading_texts (read_of s)
