-- How far words can still grow: each addition makes their sum larger, and no word grows past 64 bits.
use Rattle.std.specs.Prelude.{ℕ, ◌+◌, ◌*◌, ◌^◌, ◌≤◌, ◌<◌, List, ◌≢◌, ◌≡◌, get_or, set, replicate}
use Rattle.std.proofs.Common.{subst, sym, ap, ◌∙◌, arith, T_not, eqb→eq, lit<, length-set, get_or-set_same, get_or-set_other}
use Rattle.std.proofs.Math.Decide.{ℕ_discrete}
use Rattle.std.specs.Int.Bits.{bit_and, bit_or, or_add_and}
use Rattle.std.proofs.lemmas.Nat.{or_lt}
use Rattle.std.proofs.lemmas.List.{length-replicate}
use Rattle.base.specs.Laws.Totals.{total, total_set, total_most}
use Rattle.base.specs.Laws.Tests.{get_or_filled}
use Rattle.mask.specs.Mask.{has}
use Rattle.mask.specs.Laws.{disjoint_iff}
use Rattle.policy.specs.declared.Rule.{Rule}
use Rattle.settle.specs.Words.{added_of, grown}
use Rattle.settle.specs.Right.{AreWords}
use Rattle.settle.specs.Laws.Bits.{adds, added_lt}

-- what a rule adds is not held yet
apart : (held : List ℕ) (word : ℕ) (r : Rule) → bit_and (get_or held r.head 0) (added_of held word r) ≡ 0
apart held word r = eqb→eq (bit_and (get_or held r.head 0) (added_of held word r)) 0
    ((disjoint_iff (get_or held r.head 0) (added_of held word r)).1 (λ i a b. T_not (has (get_or held r.head 0) i)
    (adds held i word r b).lacks a))

-- words of 0
pub are_words_none : (n : ℕ) → AreWords n (replicate n 0)
are_words_none n = record {
  size = length-replicate {A = ℕ} n 0;
  small = λ d. subst (λ (x : ℕ). x < 2 ^ 64) (sym (get_or_filled n d 0)) (lit< tt);
}

-- a word put in place of one
pub are_words_set : {n : ℕ} {l : List ℕ} (i v : ℕ) → i < n → v < 2 ^ 64 → AreWords n l → AreWords n (set l i v)
are_words_set {n} {l} i v h k good = record {
  size = length-set l i v ∙ good.size;
  small = λ d. elim (ℕ_discrete d i) [
    | yes e ↦ subst (λ (x : ℕ). x < 2 ^ 64)
        (sym (ap (λ (x : ℕ). get_or (set l i v) x 0) e ∙ get_or-set_same l i v 0 (subst (λ (x : ℕ). i < x) (sym good.size) h))) k
    | no ne ↦ subst (λ (x : ℕ). x < 2 ^ 64) (sym (get_or-set_other l i d v 0 ne)) (good.small d)
  ];
}

module _ {held : List ℕ} (good : AreWords 128 held) where
  pub total_bound : total held ≤ 128 * 2 ^ 64
  total_bound = subst (λ (x : ℕ). total held ≤ x * 2 ^ 64) good.size (total_most held (2 ^ 64) (λ d. omega (arith, good.small d)))

  module _ (word : ℕ) (r : Rule) (head : r.head < 128) where
    -- the words once the rule has added what it adds
    abbrev pub next : List ℕ
    next = grown held r.head (added_of held word r)

    pub next_words : word < 2 ^ 64 → AreWords 128 next
    next_words h = are_words_set r.head _ head
        (or_lt 64 (get_or held r.head 0) (added_of held word r) (good.small r.head) (added_lt held word r h)) good

    -- their sum has grown by it
    total_next : total next ≡ total held + added_of held word r
    total_next = omega (
      arith,
      total_set held r.head (bit_or (get_or held r.head 0) (added_of held word r)) (omega (arith, good.size)),
      or_add_and (get_or held r.head 0) (added_of held word r),
      apart held word r,
    )

    pub total_kept : total held ≤ total next
    total_kept = omega (arith, total_next)

    pub total_more : added_of held word r ≢ 0 → total held < total next
    total_more some = omega (arith, total_next, some)
