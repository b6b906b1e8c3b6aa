-- What is held once sets are added to the word of one decision.
use Rattle.std.specs.Prelude.{ℕ, ◌<◌, List, ◌⊎◌, ◌≡◌, T, length, get_or}
use Rattle.std.proofs.Common.{inl, inr, ⊎_elim, sym, subst, ap, ◌∙◌, get_or-set_same, get_or-set_other}
use Rattle.std.proofs.Math.Decide.{ℕ_discrete}
use Rattle.std.specs.Int.Bits.{bit_or, or_zero_r}
use Rattle.std.proofs.lemmas.List.{set-get_or}
use Rattle.base.specs.Laws.Tests.{or_left, or_right, or_cases}
use Rattle.mask.specs.Mask.{has}
use Rattle.mask.specs.Laws.{has_or}
use Rattle.settle.specs.Words.{grown}
use Rattle.settle.specs.Right.{bit}

-- none are added
pub grown_none : (held : List ℕ) (h more : ℕ) → more ≡ 0 → grown held h more ≡ held
grown_none held h more e = rw (e, or_zero_r (get_or held h 0)) (set-get_or held h 0)

module _ (held : List ℕ) (h more : ℕ) (small : h < length held) where
  head_bit : (i : ℕ) → bit (grown held h more) i h ≡ has (bit_or (get_or held h 0) more) i
  head_bit i = ap (λ (x : ℕ). has x i) (get_or-set_same held h _ 0 small)

  -- what was held is
  pub grown_still : (i d : ℕ) → T (bit held i d) → T (bit (grown held h more) i d)
  grown_still i d t = elim (ℕ_discrete d h) [
    | yes e ↦ subst (λ (x : ℕ). T (bit (grown held h more) i x)) (sym e) (subst T (sym (head_bit i ∙ has_or (get_or held h 0) more i))
        (or_left (bit held i h) (has more i) (subst (λ (x : ℕ). T (bit held i x)) e t)))
    | no n ↦ subst (λ (x : ℕ). T (has x i)) (sym (get_or-set_other held h d _ 0 n)) t
  ]

  -- and what is added
  pub grown_more : (i : ℕ) → T (has more i) → T (bit (grown held h more) i h)
  grown_more i t = subst T (sym (head_bit i ∙ has_or (get_or held h 0) more i)) (or_right (bit held i h) (has more i) t)

  -- and nothing else
  pub grown_only : (i d : ℕ) → T (bit (grown held h more) i d) → T (bit held i d) ⊎ ((d ≡ h) × T (has more i))
  grown_only i d t = elim (ℕ_discrete d h) [
    | yes e ↦ ⊎_elim {C = T (bit held i d) ⊎ ((d ≡ h) × T (has more i))}
        (λ (x : T (bit held i h)). inl (subst (λ (c : ℕ). T (bit held i c)) (sym e) x)) (λ (x : T (has more i)). inr (e, x))
        (or_cases (bit held i h) (has more i) (subst T (head_bit i ∙ has_or (get_or held h 0) more i)
        (subst (λ (c : ℕ). T (bit (grown held h more) i c)) e t)))
    | no n ↦ inl (subst (λ (x : ℕ). T (has x i)) (get_or-set_other held h d _ 0 n) t)
  ]
