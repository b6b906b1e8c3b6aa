-- A pass over the rules of a level: what holds at each turn.
use Prim.Native.Nat.{ℕ, ◌+◌, ◌≤◌, ◌<◌}
use mathlib.Core.Bool.{Bool, true, false, true≢false}
use mathlib.Core.List.{List, Memᴰ}
use mathlib.Core.Logic.{⊎_elim, ◌≢◌}
use mathlib.Core.Path.{◌≡◌, refl, sym, subst, ap}
use native.Mathlib.Nat.{le_refl}
use native.Mathlib.Numerals.{add-one}
use native.Mathlib.Omega.{arith}
use lib.ListN.{length, get_or}
use Rattle.base.specs.Laws.Tests.{last_or_below}
use Rattle.base.specs.Laws.Totals.{total}
use Rattle.policy.specs.declared.Policy.{Policy}
use Rattle.policy.specs.declared.Query.{Query}
use Rattle.policy.specs.Questions.{Accepted}
use Rattle.policy.specs.Record.{rule_of, head_of, ifs_of}
use Rattle.policy.specs.Laws.{InRange, RuleFits, rule_wider}
use Rattle.order.specs.Order.{Used}
use Rattle.order.specs.Laws.{Hand}
use Rattle.settle.specs.Words.{added_of}
use Rattle.settle.specs.Right.{AreWords, Right}
use Rattle.settle.specs.Laws.Right.{right_next}
use Rattle.settle.specs.Laws.Grown.{grown_none}
use Rattle.settle.specs.Laws.Again.{still_quiet, now_quiet}
use Rattle.settle.specs.Laws.Room.{next, next_words, total_kept, total_more}
use Rattle.settle.specs.Laws.Settled.{Part, Quiet}

-- work at the places of a level: whatever the sets are, words that were right before are right after
pub record Works (p : Policy) (order : List ℕ) (from to : ℕ) (words before after : List ℕ) : Type 0 where
  pub fits : AreWords 128 after
  pub right : (q : Query) (w sets n : ℕ) → Accepted p q → Part p q w sets n order from to words
      → Right p q w sets n before → Right p q w sets n after

pub works_more : {p : Policy} {order : List ℕ} {from to : ℕ} {words first held next : List ℕ} → Works p order from to words first held
    → Works p order from to words held next → Works p order from to words first next
works_more one two = record {
  fits = two.fits;
  right = λ q w sets n ok part r. two.right q w sets n ok part (one.right q w sets n ok part r);
}

-- one rule is tried, at any place of the level
module _ {p : Policy} {order : List ℕ} {from to : ℕ} {words first held : List ℕ} {j : ℕ} (range : InRange p) (hand : Hand p order from to)
    (works : Works p order from to words first held) (low : from ≤ j) (below : j < to) where
  pub any_rule : RuleFits 128 16 (rule_of p (get_or order j 0))
  any_rule = rule_wider range.decisions range.actions (range.rule (get_or order j 0) (hand.rules j low below))

  -- the words once it has added what it adds
  abbrev pub after : List ℕ
  after = next works.fits (get_or words j 0) (rule_of p (get_or order j 0)) any_rule.head

  pub any_works : AreWords 256 words → Works p order from to words first after
  any_works each = record {
    fits = next_words works.fits (get_or words j 0) (rule_of p (get_or order j 0)) any_rule.head (each.small j);
    right = λ q w sets n ok part r. right_next p q ok w sets n (get_or order j 0) (get_or words j 0) held (works.right q w sets n ok part r)
        (part.enables j low below) (part.rules j low below) (part.levels j low below);
  }

  pub any_kept : total held ≤ total after
  any_kept = total_kept works.fits (get_or words j 0) (rule_of p (get_or order j 0)) any_rule.head

-- the rules at the places from `from` up to j are tried: none of them adds anything, or the words have grown and a pass more is due
pub record AtPlace (p : Policy) (order : List ℕ) (from to : ℕ) (words first held : List ℕ) (again : Bool) (j : ℕ) : Type 0 where
  pub low : from ≤ j
  pub works : Works p order from to words first held
  pub idle : again ≡ false → Quiet p order from j words held
  pub grown : total first ≤ total held
  pub moved : again ≡ true → total first < total held

module _ {p : Policy} {order : List ℕ} {from to : ℕ} {words first held : List ℕ} {again : Bool} {j : ℕ}
    (range : InRange p) (hand : Hand p order from to) (at : AtPlace p order from to words first held again j) (below : j < to) where
  abbrev more : List ℕ
  more = after range hand at.works at.low below

  module _ (each : AreWords 256 words) (some : added_of held (get_or words j 0) (rule_of p (get_or order j 0)) ≢ 0) where
    higher : total held < total more
    higher = total_more at.works.fits (get_or words j 0) (rule_of p (get_or order j 0))
        (any_rule range hand at.works at.low below).head some

    -- it adds to a decision that is asked for already
    pub place_again : AtPlace p order from to words first more true (j + 1)
    place_again = record {
      low = omega (arith, at.low);
      works = any_works range hand at.works at.low below each;
      idle = λ e. absurd (true≢false e);
      grown = omega (arith, at.grown, higher);
      moved = λ e. omega (arith, at.grown, higher);
    }

    -- or to one that is asked for later alone
    pub place_more : {uses : List ℕ} → Used p order uses → j < get_or uses (head_of p (get_or order j 0)) 0
        → AtPlace p order from to words first more again (j + 1)
    place_more {uses} used later = record {
      low = omega (arith, at.low);
      works = any_works range hand at.works at.low below each;
      idle = λ e i l h. ⊎_elim {C = added_of more (get_or words i 0) (rule_of p (get_or order i 0)) ≡ 0}
          (λ (s : i ≡ j). subst (λ (x : ℕ). added_of more (get_or words x 0) (rule_of p (get_or order x 0)) ≡ 0) (sym s)
          (now_quiet held _ _ long (get_or words j 0) (rule_of p (get_or order j 0)) (apart j at.low (le_refl _)) refl refl))
          (λ (b : i < j). still_quiet held _ _ long (get_or words i 0) (rule_of p (get_or order i 0)) (apart i l (omega arith))
          (at.idle e i l b))
          (last_or_below (subst (λ (x : ℕ). i < x) (add-one j) h));
      grown = omega (arith, at.grown, higher);
      moved = λ e. omega (arith, at.grown, higher);
    }
      where
        long : head_of p (get_or order j 0) < length held
        long = omega (arith, at.works.fits.size, (any_rule range hand at.works at.low below).head)

        -- no rule so far asks for it
        apart : (i : ℕ) → from ≤ i → i ≤ j → (d : ℕ) → Memᴰ d (ifs_of p (get_or order i 0)) → d ≢ head_of p (get_or order j 0)
        apart i l h d m e = omega (
          arith,
          used.early i d (omega (arith, hand.last)) m,
          ap (λ (x : ℕ). get_or uses x 0) e,
        )

  -- it adds nothing
  pub place_idle : added_of held (get_or words j 0) (rule_of p (get_or order j 0)) ≡ 0
      → AtPlace p order from to words first more again (j + 1)
  place_idle none = subst (λ (l : List ℕ). AtPlace p order from to words first l again (j + 1)) (sym (grown_none held _ _ none)) (record {
    low = omega (arith, at.low);
    works = at.works;
    idle = λ e i l h. ⊎_elim {C = added_of held (get_or words i 0) (rule_of p (get_or order i 0)) ≡ 0}
        (λ (s : i ≡ j). subst (λ (x : ℕ). added_of held (get_or words x 0) (rule_of p (get_or order x 0)) ≡ 0) (sym s) none)
        (λ (b : i < j). at.idle e i l b) (last_or_below (subst (λ (x : ℕ). i < x) (add-one j) h));
    grown = at.grown;
    moved = at.moved;
  })
