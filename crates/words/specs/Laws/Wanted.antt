-- The word of the decision wanted says of each of its sets whether it clears.
use Rattle.std.specs.Prelude.{ℕ, ◌^◌, ◌<◌, ◌&&◌, ◌≡◌, ltb}
use Rattle.std.proofs.Math.Path.{refl}
use Rattle.std.proofs.Common.{◌∙◌, lt-ltb}
use Rattle.mask.specs.Mask.{has}
use Rattle.mask.specs.Laws.Packed.{packed_bit}
use Rattle.policy.specs.declared.Policy.{Policy}
use Rattle.policy.specs.declared.Query.{Query}
use Rattle.policy.specs.Questions.{Accepted}
use Rattle.policy.specs.Laws.{accepted_want}
use Rattle.model.specs.Clears.{clears}
use Rattle.columns.specs.Sets.{set_at}
use Rattle.words.specs.Models.{bit_of, word_of}

module _ (p : Policy) (q : Query) (ok : Accepted p q) (w i : ℕ) (k : i < 64) where
  pub wanted_bit : has (word_of p q w q.want) i ≡ (ltb (set_at w i) (2 ^ p.actions) && clears p q (set_at w i))
  unfolding word_of bit_of
  wanted_bit = packed_bit 64 (bit_of p q w q.want) i k ∙ rw (lt-ltb q.want p.decisions (accepted_want p q ok)) refl

  -- so of a set of the policy's actions
  pub clears_bit : set_at w i < 2 ^ p.actions → has (word_of p q w q.want) i ≡ clears p q (set_at w i)
  clears_bit h = wanted_bit ∙ rw (lt-ltb (set_at w i) (2 ^ p.actions) h) refl
