-- The sets of a word that are offered: those with no action that is shut.
use Rattle.std.specs.Prelude.{ℕ, ◌^◌, ◌≤◌, ◌<◌, Bool, true, ◌&&◌, ◌||◌, ◌≡◌, T, ltb, leb}
use Rattle.std.proofs.Math.Bool.{not}
use Rattle.std.proofs.Common.{⊎_elim, sym, ◌∙◌, subst, arith, T_not, ltb→lt, lt→ltb, leb→le}
use Rattle.std.specs.Int.Bits.{bit_and, and_lt}
use Rattle.std.proofs.lemmas.Nat.{xor_lt}
use Rattle.std.proofs.Math.Dec.{not_T, nleb→lt}
use Rattle.base.specs.Every.{every_below}
use Rattle.base.specs.Laws.Tests.{same, either, and_make, and_left, and_right, or_left, or_right, or_cases, every_below_at}
use Rattle.base.specs.Laws.Tests.{every_below_make}
use Rattle.mask.specs.Mask.{has, disjoint}
use Rattle.mask.specs.Laws.{has→<, ⊆→<, disjoint_iff}
use Rattle.mask.specs.Packed.{packed}
use Rattle.mask.specs.Laws.Packed.{minus, has_minus, packed_lt, packed_bit, packed_only}
use Rattle.columns.specs.Sets.{all_sets, set_at, column_of, is_offered, is_shut, offered_of, picked}
use Rattle.columns.specs.Laws.Columns.{all_set, set_small}
use Rattle.columns.specs.Laws.Picked.{picked_keeps, picked_lt}

-- a set of none but the first m actions is below 2 ^ m
few_actions : (s m : ℕ) → ((a : ℕ) → T (has s a) → a < m) → s < 2 ^ m
few_actions s m h =
    ⊆→< s (packed m (has s)) m (λ a t. subst T (sym (packed_bit m (has s) a (h a t))) t) (packed_lt m (has s))

pub column_bit : (w a i : ℕ) → i < 64 → has (column_of w a) i ≡ has (set_at w i) a
unfolding column_of
column_bit w a i h = packed_bit 64 (λ j. has (set_at w j) a) i h

pub column_lt : (w a : ℕ) → column_of w a < 2 ^ 64
unfolding column_of
column_lt w a = packed_lt 64 (λ i. has (set_at w i) a)

module _ (m done w : ℕ) (small : w ≤ 1023) where
  -- the words left once the sets with an action that is shut are taken away
  abbrev left : ℕ
  left = picked minus (is_shut m done) (column_of w) all_sets 16

  left_lt : left < 2 ^ 64
  left_lt = picked_lt 64 minus (is_shut m done) (column_of w) all_sets
      (λ a b h k. xor_lt 64 a (bit_and a b) h (and_lt 64 a b h k)) (omega arith) (column_lt w) 16

  module _ (i : ℕ) (h : i < 64) where
    abbrev spared : ℕ → Bool
    spared a = not (is_shut m done a) || not (has (column_of w a) i)

    full : T (has all_sets i)
    full = subst (λ (x : ℕ). T (has x i)) (sym all_set) (subst T (sym (packed_bit 64 (λ j. true) i h)) tt)

    there : T (has all_sets i && every_below 16 spared) → T (is_offered m done (set_at w i))
    there t = and_make (ltb (set_at w i) (2 ^ m)) (disjoint (set_at w i) done)
        (lt→ltb (set_at w i) (2 ^ m) (few_actions (set_at w i) m (λ a u. nleb→lt m a
        (not_T (leb m a) (λ l. clear a u (or_left (leb m a) (has done a) l))))))
        ((disjoint_iff (set_at w i) done).1 (λ a u v. clear a u (or_right (leb m a) (has done a) v)))
      where
        clear : (a : ℕ) → T (has (set_at w i) a) → T (is_shut m done a) → ⊥
        clear a u s = ⊎_elim {C = ⊥} (λ (n : T (not (is_shut m done a))). T_not (is_shut m done a) n s)
            (λ (n : T (not (has (column_of w a) i))). T_not (has (column_of w a) i) n (subst T (sym (column_bit w a i h)) u))
            (or_cases (not (is_shut m done a)) (not (has (column_of w a) i))
            (every_below_at spared 16 (and_right (has all_sets i) (every_below 16 spared) t) a
            (has→< (set_at w i) a 16 u (set_small w i small h))))

    back : T (is_offered m done (set_at w i)) → T (has all_sets i && every_below 16 spared)
    back t = and_make (has all_sets i) (every_below 16 spared) full (every_below_make spared 16 (λ a k. ⊎_elim {C = T (spared a)}
        (λ (s : T (is_shut m done a)). or_right (not (is_shut m done a)) (not (has (column_of w a) i))
        (not_T (has (column_of w a) i) (λ u. shuts a s (subst T (column_bit w a i h) u))))
        (λ (n : T (not (is_shut m done a))). or_left (not (is_shut m done a)) (not (has (column_of w a) i)) n) (either (is_shut m done a))))
      where
        shuts : (a : ℕ) → T (is_shut m done a) → T (has (set_at w i) a) → ⊥
        shuts a s u = ⊎_elim {C = ⊥}
            (λ (l : T (leb m a)). omega (
              arith,
              leb→le m a l,
              has→< (set_at w i) a m u
                  (ltb→lt (set_at w i) (2 ^ m) (and_left (ltb (set_at w i) (2 ^ m)) (disjoint (set_at w i) done) t)),
            ))
            (λ (v : T (has done a)). (disjoint_iff (set_at w i) done).0
            (and_right (ltb (set_at w i) (2 ^ m)) (disjoint (set_at w i) done) t) a u v)
            (or_cases (leb m a) (has done a) s)

  pub offered_is : left ≡ offered_of m done w
  unfolding offered_of
  offered_is = packed_only 64 left (λ i. is_offered m done (set_at w i)) left_lt (λ i h.
      picked_keeps (is_shut m done) (column_of w) all_sets i minus not (λ a b. has_minus a b i) 16
      ∙ same (has all_sets i && every_below 16 (spared i h)) (is_offered m done (set_at w i)) (there i h) (back i h))
