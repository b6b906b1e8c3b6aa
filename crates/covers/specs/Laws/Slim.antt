-- The slim sets of a word: the members that are not covered less one of their actions are the minimal ones.
use Prim.Native.Nat.{ℕ, ◌+◌, ◌-◌, ◌*◌, ◌^◌, ◌<◌}
use Rattle.std.specs.Prelude.{Bool, true, false, ◌&&◌, ◌||◌, not, List, ◌≡◌, refl, T, get_or}
use Rattle.std.proofs.Math.Path.{sym, ap}
use Rattle.std.proofs.Common.{◌∙◌, subst, le_refl, arith}
use Rattle.std.specs.Int.Bits.{bit_or}
use Rattle.base.specs.Every.{some_below}
use Rattle.base.specs.Laws.Tests.{same, and_right, and_same, some_below_same, some_split, or_swap}
use Rattle.mask.specs.Mask.{has}
use Rattle.mask.specs.Family.{minimal}
use Rattle.mask.specs.Laws.{has_or}
use Rattle.mask.specs.Laws.Packed.{has_minus}
use Rattle.mask.specs.Laws.Minimal.{covered, covered_less, minimal_step}
use Rattle.columns.specs.Sets.{set_at}
use Rattle.columns.specs.Laws.Columns.{low_action, set_small}
use Rattle.covers.specs.Covers.{Marks, Table, Members, closed_of, less_of, low_of, slim_of}
use Rattle.covers.specs.Laws.Closed.{less_bit}
use Rattle.covers.specs.Laws.Places.{upper, less_upper, less_lower}
use Rattle.covers.specs.Laws.Marks.{low_is, marks_next}

module _ (takes : ℕ → Bool) (table : List ℕ) (w : ℕ) (small : w < 1024)
    (right : (v : ℕ) → v < w → Marks (covered takes) v (get_or table v 0)) (members : ℕ)
    (taken : Members takes w (low_of table w) members) where
  -- its sets that are covered less one of their actions
  less_is : (i : ℕ) → i < 64 → (has (low_of table w) i || has (less_of (closed_of (bit_or members (low_of table w)) 6) 6) i)
      ≡ covered_less takes 16 (64 * w + i)
  unfolding covered_less
  less_is i s = or_swap (has (low_of table w) i) (has (less_of all 6) i)
      ∙ ap (λ (x : Bool). x || has (low_of table w) i) lower
      ∙ ap (λ (x : Bool). some_below 6 test || x) higher
      ∙ sym (some_split 6 10 test)
    where
      all : ℕ
      all = closed_of (bit_or members (low_of table w)) 6

      test : ℕ → Bool
      test a = has (64 * w + i) a && covered takes (64 * w + i - 2 ^ a)

      lower : has (less_of all 6) i ≡ some_below 6 test
      lower = less_bit all 6 i (le_refl 6) s ∙ some_below_same 6 (λ a. has i a && has all (i - 2 ^ a)) test (λ a h.
          and_same (has i a) (has all (i - 2 ^ a)) (covered takes (64 * w + i - 2 ^ a)) (λ t.
          (marks_next takes table w small right members taken).bits (i - 2 ^ a) (omega arith) ∙ ap (covered takes) (less_lower w i a t))
          ∙ ap (λ (x : Bool). x && covered takes (64 * w + i - 2 ^ a)) (sym (low_action w i a h)))

      higher : has (low_of table w) i ≡ some_below 10 (λ b. test (6 + b))
      higher = low_is takes table w small right i s
          ∙ some_below_same 10 (λ b. has w b && covered takes (64 * (w - 2 ^ b) + i)) (λ b. test (6 + b)) (λ b h.
          and_same (has w b) (covered takes (64 * (w - 2 ^ b) + i)) (covered takes (64 * w + i - 2 ^ (6 + b)))
          (λ t. ap (covered takes) (less_upper w i b t))
          ∙ ap (λ (x : Bool). x && covered takes (64 * w + i - 2 ^ (6 + b))) (sym (upper w i b s)))

  -- of the sets at hand those that are not covered less an action are the taken ones of which that is so
  clear_same : (i : ℕ) → i < 64 → (low more : Bool) → low ≡ has (low_of table w) i
      → (has members i && not (low || more)) ≡ (takes (64 * w + i) && not (low || more))
  clear_same i s true more e = same (has members i && false) (takes (64 * w + i) && false)
      (λ t. absurd (and_right (has members i) false t)) (λ t. absurd (and_right (takes (64 * w + i)) false t))
  clear_same i s false more e = ap (λ (x : Bool). x && not more) (same (has members i) (takes (64 * w + i)) (taken.only i s)
      (λ t. taken.all i s t (subst (λ (x : Bool). T (not x)) e tt)))

  -- the minimal ones
  slim_next : Marks (minimal takes) w (slim_of members (low_of table w))
  slim_next = record {
    bits = λ i s.
        has_minus members (bit_or (low_of table w) (less_of all 6)) i
        ∙ ap (λ (x : Bool). has members i && not x) (has_or (low_of table w) (less_of all 6) i)
        ∙ clear_same i s (has (low_of table w) i) (has (less_of all 6) i) refl
        ∙ ap (λ (x : Bool). takes (set_at w i) && not x) (less_is i s)
        ∙ sym (minimal_step takes 16 (set_at w i) (set_small w i (omega arith) s));
  }
    where
      all : ℕ
      all = closed_of (bit_or members (low_of table w)) 6

-- the word of the minimal members, by the words that the code has at hand
pub slim_word : {takes : ℕ → Bool} {n low members next : ℕ} {table : List ℕ} → Table (covered takes) n table → n < 1024
    → low ≡ low_of table n → Members takes n low members → next ≡ slim_of members low → Marks (minimal takes) n next
slim_word {takes} {n} {low} {members} {next} {table} so h l taken e =
    subst (Marks (minimal takes) n) (sym (e ∙ ap (slim_of members) l))
    (slim_next takes table n h so.right members (subst (λ (x : ℕ). Members takes n x members) l taken))
