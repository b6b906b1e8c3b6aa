-- Sixty-four sets in a word, as document 02 has them (F-9): what each bit means, and what the call answers.
use Rattle.std.specs.Prelude.{ℕ, ◌≤◌, ◌<◌, Bool, ◌&&◌, false, List, ◌↔◌, ◌≢◌, ◌≡◌, T, leb, length, get_or, replicate, Ok}
use Rattle.mask.specs.Mask.{has}
use Rattle.policy.specs.declared.Policy.{Policy}
use Rattle.policy.specs.declared.Query.{Query}
use Rattle.policy.specs.Questions.{Question, first_no, questions, query_in_range, query_questions, Accepted}
use Rattle.weight.specs.Cost.{cost_of}
use Rattle.columns.specs.Sets.{set_at}
use Rattle.words.specs.Models.{asking, model_of}
use Rattle.engine.specs.declared.WordModel.{WordModel}
use Rattle.engine.specs.Sets.{Offered, Enough}
use Rattle.engine.specs.Calls.{refused_or, judge_of}
use Rattle.engine.specs.Meaning.{Refuses}

-- bit i of the word of decision d
abbrev pub word_bit : WordModel → ℕ → ℕ → Bool
word_bit r d i = has (get_or r.word d 0) i

module _ (p : Policy) (q : Query) (w : ℕ) where
  -- questions 3 to 6: 3 is put to the query and to w too
  abbrev pub word_in_range : Bool
  word_in_range = query_in_range p q && leb w 1023

  unfoldable pub word_questions : List Question
  word_questions = questions p word_in_range

  -- what is promised of the answer: with decision d as want, bit i of its word is the judgment of the set 64 w + i
  pub record SaysWords (r : WordModel) : Type 0 where
    pub judged : r.refusal ≡ 0 → (d i : ℕ) → d < p.decisions → i < 64 → Offered p q (set_at w i)
        → (judge_of p (asking q d) (set_at w i) ≡ Ok (record { enough = word_bit r d i; cost = cost_of p (set_at w i) }))
        × (T (word_bit r d i) ↔ Enough p (asking q d) (set_at w i))
    -- the bits of all other masks are 0: they share with done, or reach 2 ^ M
    pub shut : (d i : ℕ) → i < 64 → ¬ Offered p q (set_at w i) → word_bit r d i ≡ false
    -- and so are the words past the decision count
    pub past : (d : ℕ) → p.decisions ≤ d → get_or r.word d 0 ≡ 0
    pub places : length r.word ≡ 128
    pub refused : r.refusal ≢ 0 → Refuses word_questions r.refusal × (r.word ≡ replicate 128 0)

  -- what the call returns
  unfoldable pub words_of : WordModel
  words_of = refused_or (first_no word_questions) (λ n. record { refusal = n; word = replicate 128 0 })
      (record { refusal = 0; word = model_of p q w })

-- F-9: what holds for every policy, query and w
pub record SixtyFour (p : Policy) (q : Query) (w : ℕ) : Type 0 where
  pub says : SaysWords p q w (words_of p q w)
  -- the questions are those of the query, and a w above 1,023 gives 3
  pub asked : w ≤ 1023 → (words_of p q w).refusal ≡ first_no (query_questions p q)
  pub three : 1023 < w → (words_of p q w).refusal ≡ 3
  -- want plays no part but in question 3
  pub unread : Accepted p q → (d : ℕ) → d < p.decisions → words_of p (asking q d) w ≡ words_of p q w
