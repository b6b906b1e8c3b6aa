-- The sets of a word that contain a set: those that have each of its actions.
use Rattle.std.specs.Prelude.{ℕ, ◌^◌, ◌<◌, Bool, true, ◌&&◌, ◌||◌, not, ◌≡◌, T}
use Rattle.std.proofs.Common.{⊎_elim, sym, ◌∙◌, subst, arith, T_not}
use Rattle.std.specs.Int.Bits.{bit_and, and_lt}
use Rattle.base.specs.Every.{every_below}
use Rattle.base.specs.Laws.Tests.{same, passes, either, and_make, and_right, or_left, or_right, or_cases, every_below_at, every_below_make}
use Rattle.mask.specs.Mask.{has, contains}
use Rattle.mask.specs.Laws.{has_and, has→<, contains_iff}
use Rattle.mask.specs.Laws.Packed.{packed_only}
use Rattle.columns.specs.Sets.{all_sets, set_at, column_of, holding_of, picked}
use Rattle.columns.specs.Laws.Offered.{column_bit, column_lt}
use Rattle.columns.specs.Laws.Picked.{picked_keeps, picked_lt}
use Rattle.columns.specs.Laws.Worlds.{all_or_none}

module _ (set w : ℕ) (small : set < 2 ^ 16) where
  -- the words kept for each action of the set
  abbrev kept : ℕ
  kept = picked bit_and (has set) (column_of w) all_sets 16

  module _ (i : ℕ) (h : i < 64) where
    abbrev spared : ℕ → Bool
    spared a = not (has set a) || has (column_of w a) i

    there : T (has all_sets i && every_below 16 spared) → T (contains (set_at w i) set)
    there t = (contains_iff (set_at w i) set).1 (λ a u. ⊎_elim {C = T (has (set_at w i) a)}
        (λ (n : T (not (has set a))). absurd (T_not (has set a) n u))
        (λ (v : T (has (column_of w a) i)). subst T (column_bit w a i h) v)
        (or_cases (not (has set a)) (has (column_of w a) i)
        (every_below_at spared 16 (and_right (has all_sets i) (every_below 16 spared) t) a (has→< set a 16 u small))))

    back : T (contains (set_at w i) set) → T (has all_sets i && every_below 16 spared)
    back t = and_make (has all_sets i) (every_below 16 spared) (passes (has all_sets i) (all_or_none true i h))
        (every_below_make spared 16 (λ a k. ⊎_elim {C = T (spared a)}
        (λ (u : T (has set a)). or_right (not (has set a)) (has (column_of w a) i)
        (subst T (sym (column_bit w a i h)) ((contains_iff (set_at w i) set).0 t a u)))
        (λ (n : T (not (has set a))). or_left (not (has set a)) (has (column_of w a) i) n) (either (has set a))))

  pub holding_is : kept ≡ holding_of set w
  unfolding holding_of
  holding_is = packed_only 64 kept (λ i. contains (set_at w i) set)
      (picked_lt 64 bit_and (has set) (column_of w) all_sets (and_lt 64) (omega arith) (column_lt w) 16)
      (λ i h. picked_keeps (has set) (column_of w) all_sets i bit_and (λ b. b) (λ a b. has_and a b i) 16
      ∙ same (has all_sets i && every_below 16 (spared i h)) (contains (set_at w i) set) (there i h) (back i h))
