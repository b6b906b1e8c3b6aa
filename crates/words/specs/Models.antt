-- For each decision, in one word, which of the 64 sets of w clear it.
use Rattle.std.specs.Prelude.{ℕ, ◌^◌, Bool, ◌&&◌, List, ltb}
use Rattle.base.specs.Lists.{table}
use Rattle.mask.specs.Packed.{packed}
use Rattle.policy.specs.declared.Policy.{Policy}
use Rattle.policy.specs.declared.Query.{Query}
use Rattle.model.specs.Clears.{clears}
use Rattle.columns.specs.Sets.{set_at}

-- the query with decision d as want
abbrev pub asking : Query → ℕ → Query
asking q d = record { want = d; done = q.done }

module _ (p : Policy) (q : Query) (w : ℕ) where
  -- bit i of the word of decision d: d is a decision of the policy, the i-th set is one of its sets, and clears with d as want
  unfoldable pub bit_of : ℕ → ℕ → Bool
  bit_of d i = ltb d p.decisions && (ltb (set_at w i) (2 ^ p.actions) && clears p (asking q d) (set_at w i))

  unfoldable pub word_of : ℕ → ℕ
  word_of d = packed 64 (bit_of d)

  unfoldable pub model_of : List ℕ
  model_of = table 128 word_of
