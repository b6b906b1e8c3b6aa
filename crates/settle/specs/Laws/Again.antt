-- A rule that adds nothing adds nothing later, as long as no decision that it asks for is added to.
use Rattle.std.specs.Prelude.{ℕ, ◌<◌, not, ◌≢◌, ◌≡◌, T, length}
use mathlib.Core.List.{List, Memᴰ}
use Rattle.std.proofs.Common.{sym, subst, T_not, get_or-set_other}
use Rattle.std.proofs.Math.Dec.{not_T}
use Rattle.base.specs.Laws.Tests.{every_at, every_make}
use Rattle.mask.specs.Mask.{has}
use Rattle.mask.specs.Laws.{has_none, ⊆_antisym}
use Rattle.policy.specs.declared.Rule.{Rule}
use Rattle.policy.specs.Record.{listed}
use Rattle.settle.specs.Words.{added_of, grown}
use Rattle.settle.specs.Right.{bit}
use Rattle.settle.specs.Laws.Bits.{adds, adds_make}
use Rattle.settle.specs.Laws.Grown.{grown_still, grown_more}

module _ (held : List ℕ) (h more : ℕ) (small : h < length held) (enabled : ℕ) (r : Rule)
    (apart : (d : ℕ) → Memᴰ d (listed r.ifs) → d ≢ h) where
  abbrev next : List ℕ
  next = grown held h more

  -- what the rule adds now it would have added before
  kept : (i : ℕ) → T (has (added_of next enabled r) i) → T (has (added_of held enabled r) i)
  kept i t =
      let now = adds next i enabled r t in
      adds_make held i enabled r (record {
        enables = now.enables;
        lacks = not_yet r.head now.lacks;
        ifs = every_make (bit held i) (listed r.ifs) (λ d m. subst (λ (x : ℕ). T (has x i))
            (get_or-set_other held h d _ 0 (apart d m)) (every_at (bit next i) (listed r.ifs) now.ifs d m));
        unless = every_make (λ d. not (bit held i d)) (listed r.unless) (λ d m.
            not_yet d (every_at (λ d. not (bit next i d)) (listed r.unless) now.unless d m));
      })
    where
      not_yet : (d : ℕ) → T (not (bit next i d)) → T (not (bit held i d))
      not_yet d n = not_T (bit held i d) (λ t. T_not (bit next i d) n (grown_still held h more small i d t))

  -- so it adds nothing where it added nothing
  pub still_quiet : added_of held enabled r ≡ 0 → added_of next enabled r ≡ 0
  still_quiet e = ⊆_antisym (added_of next enabled r) 0 (λ i t. subst (λ (x : ℕ). T (has x i)) e (kept i t))
      (λ i t. absurd (has_none i t))

  -- nor where it is the rule that has just added
  pub now_quiet : r.head ≡ h → more ≡ added_of held enabled r → added_of next enabled r ≡ 0
  now_quiet e f = ⊆_antisym (added_of next enabled r) 0 (λ i t. absurd (T_not (bit next i r.head) (adds next i enabled r t).lacks
      (subst (λ (x : ℕ). T (bit next i x)) (sym e) (grown_more held h more small i (subst (λ (x : ℕ). T (has x i)) (sym f) (kept i t))))))
      (λ i t. absurd (has_none i t))
