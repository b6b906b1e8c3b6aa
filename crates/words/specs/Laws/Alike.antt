-- Policies that judge each set alike have the same words.
use Prim.Native.Nat.{ℕ, ◌^◌, ◌<◌}
use Rattle.std.specs.Prelude.{Bool, ◌&&◌, ◌≡◌}
use Rattle.std.proofs.Common.{◌∙◌, ltb→lt}
use Rattle.std.proofs.Math.Path.{ap}
use Rattle.std.proofs.Math.Dec.{ltb}
use Rattle.base.specs.Laws.Tables.{table_length, table_only}
use Rattle.base.specs.Laws.Tests.{and_same}
use Rattle.mask.specs.Laws.Packed.{packed_same}
use Rattle.policy.specs.declared.Policy.{Policy}
use Rattle.policy.specs.declared.Query.{Query}
use Rattle.model.specs.Clears.{clears}
use Rattle.columns.specs.Sets.{set_at}
use Rattle.words.specs.Models.{asking, bit_of, word_of, model_of}
use Rattle.words.specs.Laws.Worked.{model_at}

module _ (p p' : Policy) (q : Query) (w : ℕ) (decisions : p.decisions ≡ p'.decisions) (actions : p.actions ≡ p'.actions)
    (alike : (d s : ℕ) → d < p.decisions → clears p (asking q d) s ≡ clears p' (asking q d) s) where
  bit_alike : (d i : ℕ) → bit_of p q w d i ≡ bit_of p' q w d i
  unfolding bit_of
  bit_alike d i =
      let s : ℕ = set_at w i in
      and_same (ltb d p.decisions) (ltb s (2 ^ p.actions) && clears p (asking q d) s)
      (ltb s (2 ^ p'.actions) && clears p' (asking q d) s)
      (λ t. ap (λ (x : ℕ). ltb s (2 ^ x) && clears p (asking q d) s) actions
      ∙ ap (λ (b : Bool). ltb s (2 ^ p'.actions) && b) (alike d s (ltb→lt d p.decisions t)))
      ∙ ap (λ (x : ℕ). ltb d x && (ltb s (2 ^ p'.actions) && clears p' (asking q d) s)) decisions

  pub model_alike : model_of p q w ≡ model_of p' q w
  unfolding model_of word_of
  model_alike = table_only 128 (word_of p' q w) (model_of p q w) (table_length 128 (word_of p q w)) (λ d h.
      model_at p q w h ∙ packed_same 64 (bit_of p q w d) (bit_of p' q w d) (λ i k. bit_alike d i))
