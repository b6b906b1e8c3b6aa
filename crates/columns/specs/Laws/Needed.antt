-- The words of the rules enabled say of each set whether its world has the needs.
use Rattle.std.specs.Prelude.{ℕ, zero, suc, ◌+◌, ◌*◌, ◌/◌, ◌%◌, ◌^◌, ◌≤◌, ◌<◌, Bool, ◌&&◌, ◌||◌, List, ◌≡◌, eqb}
use Rattle.std.proofs.Math.Bool.{true, not}
use Rattle.std.proofs.Common.{⊎_elim, sym, ◌∙◌, T_not, shr-shr}
use Rattle.std.proofs.Math.Path.{ap, subst}
use Rattle.std.proofs.Math.Decide.{dec_lt}
use native.Mathlib.Omega.{arith}
use Rattle.std.specs.Int.Bits.{bit_and}
use Rattle.std.proofs.Math.Dec.{T}
use Rattle.std.proofs.Math.ListN.{get_or}
use Rattle.base.specs.Every.{every_below}
use Rattle.base.specs.Lists.{table}
use Rattle.base.specs.Laws.Tables.{table_at}
use Rattle.base.specs.Laws.Tests.{same, is_false, either, and_make, and_left, and_right, and_same, or_left, or_right, or_cases}
use Rattle.base.specs.Laws.Tests.{every_below_at, every_below_make, every_below_same}
use Rattle.mask.specs.Mask.{has}
use Rattle.mask.specs.Laws.{has→<, has_and, contains_iff, ⊆→<}
use Rattle.mask.specs.Laws.Packed.{packed_bit}
use Rattle.policy.specs.declared.Policy.{Policy}
use Rattle.policy.specs.declared.Query.{Query}
use Rattle.policy.specs.declared.Rule.{Rule}
use Rattle.policy.specs.Questions.{Accepted}
use Rattle.model.specs.World.{world_of, enabled}
use Rattle.columns.specs.Sets.{all_sets, set_at, gathered, four_of, fours_of, needed_of}
use Rattle.columns.specs.Laws.Columns.{block_low}
use Rattle.columns.specs.Laws.Picked.{picked_keeps}
use Rattle.columns.specs.Laws.Worlds.{all_or_none, leads, base, gathered_is}

-- the four actions from 4 z on, as a mask of four
nibble : (n z b : ℕ) → b < 4 → has (n / 2 ^ (4 * z) % 16) b ≡ has n (4 * z + b)
nibble n z b h =
    let x : ℕ = n / 2 ^ (4 * z) in
    let whole : (x / 16) * 2 ^ 4 + x % 16 ≡ x = omega arith in
    sym (block_low 4 (x / 16) (x % 16) b h) ∙ ap (λ (y : ℕ). has y b) whole ∙ ap (λ (y : ℕ). eqb (y % 2) 1) (shr-shr n (4 * z) b)

-- the bits of five words joined by and
and_bits : (s a b c d i : ℕ) → has (bit_and (bit_and (bit_and (bit_and s a) b) c) d) i
    ≡ ((((has s i && has a i) && has b i) && has c i) && has d i)
and_bits s a b c d i = has_and (bit_and (bit_and (bit_and s a) b) c) d i ∙ ap (λ (x : Bool). x && has d i)
    (has_and (bit_and (bit_and s a) b) c i ∙ ap (λ (x : Bool). x && has c i)
    (has_and (bit_and s a) b i ∙ ap (λ (x : Bool). x && has b i) (has_and s a i)))

module _ (world : List ℕ) (needs : ℕ) where
  -- the set has action b in its world, or it is not needed
  abbrev kept : ℕ → ℕ → Bool
  kept i b = not (has needs b) || has (get_or world b 0) i

  module _ (i : ℕ) (h : i < 64) where
    -- each of the four actions from 4 z on is kept
    unfoldable quarter : ℕ → Bool
    quarter z = every_below 4 (λ b. kept i (4 * z + b))

    -- one look into the table
    look : (n z v : ℕ) → n ≡ 16 * z + v → z < 4 → v < 16 → v ≡ needs / 2 ^ (4 * z) % 16 → has (get_or (fours_of world) n 0) i ≡ quarter z
    unfolding fours_of four_of quarter
    look n z v e k l f =
        let high : n / 16 ≡ z = omega arith in
        let low : n % 16 ≡ v = omega arith in
        ap (λ (x : ℕ). has x i) (table_at 64 (λ m. four_of world (m / 16) (m % 16)) n 0 (omega arith)
        ∙ ap (λ (x : ℕ). four_of world x (n % 16)) high ∙ ap (four_of world z) low)
        ∙ picked_keeps (has v) (λ b. get_or world (4 * z + b) 0) all_sets i bit_and (λ x. x) (λ a b. has_and a b i) 4
        ∙ ap (λ (x : Bool). x && every_below 4 (λ b. not (has v b) || has (get_or world (4 * z + b) 0) i)) (all_or_none true i h)
        ∙ every_below_same 4 (λ b. not (has v b) || has (get_or world (4 * z + b) 0) i) (λ b. kept i (4 * z + b))
        (λ b m. ap (λ (x : Bool). not x || has (get_or world (4 * z + b) 0) i) (ap (λ (x : ℕ). has x b) f ∙ nibble needs z b m))

    -- four looks are all 16 actions
    all_kept : ((z : ℕ) → z < 4 → T (quarter z)) → T (every_below 16 (kept i))
    unfolding quarter
    all_kept q = every_below_make (kept i) 16 (λ b k.
        let back : 4 * (b / 4) + b % 4 ≡ b = omega arith in
        let low : b % 4 < 4 = omega arith in
        subst (λ (x : ℕ). T (kept i x)) back (every_below_at (λ c. kept i (4 * (b / 4) + c)) 4 (q (b / 4) (omega arith)) (b % 4) low))

    each : T (every_below 16 (kept i)) → (z : ℕ) → z < 4 → T (quarter z)
    unfolding quarter
    each t z k = every_below_make (λ b. kept i (4 * z + b)) 4 (λ b m. every_below_at (kept i) 16 t (4 * z + b) (omega arith))

    module _ (s : Bool) where
      abbrev looks : Bool
      looks = (((s && quarter 0) && quarter 1) && quarter 2) && quarter 3

      there : T looks → T (s && every_below 16 (kept i))
      there t =
          let c : T (((s && quarter 0) && quarter 1) && quarter 2) = and_left (((s && quarter 0) && quarter 1) && quarter 2)
          (quarter 3) t in
          let b : T ((s && quarter 0) && quarter 1) = and_left ((s && quarter 0) && quarter 1) (quarter 2) c in
          let a : T (s && quarter 0) = and_left (s && quarter 0) (quarter 1) b in
          and_make s (every_below 16 (kept i)) (and_left s (quarter 0) a) (all_kept (four_cases (and_right s (quarter 0) a)
          (and_right (s && quarter 0) (quarter 1) b) (and_right ((s && quarter 0) && quarter 1) (quarter 2) c)
          (and_right (((s && quarter 0) && quarter 1) && quarter 2) (quarter 3) t)))
        where
          four_cases : T (quarter 0) → T (quarter 1) → T (quarter 2) → T (quarter 3) → (z : ℕ) → z < 4 → T (quarter z)
          four_cases a b c d zero k = a
          four_cases a b c d (suc zero) k = b
          four_cases a b c d (suc (suc zero)) k = c
          four_cases a b c d (suc (suc (suc zero))) k = d
          four_cases a b c d (suc (suc (suc (suc z)))) k = absurd (omega arith)

      back : T (s && every_below 16 (kept i)) → T looks
      back t =
          let q = each (and_right s (every_below 16 (kept i)) t) in
          and_make (((s && quarter 0) && quarter 1) && quarter 2) (quarter 3) (and_make ((s && quarter 0) && quarter 1) (quarter 2)
          (and_make (s && quarter 0) (quarter 1) (and_make s (quarter 0) (and_left s (every_below 16 (kept i)) t) (q 0 (omega arith)))
          (q 1 (omega arith))) (q 2 (omega arith))) (q 3 (omega arith))

    needed_kept : (sets : ℕ) → has (needed_of (fours_of world) needs sets) i ≡ (has sets i && every_below 16 (kept i))
    unfolding needed_of
    needed_kept sets =
        and_bits sets _ _ _ _ i
        ∙ rw (
          look (needs % 16) 0 (needs % 16) (omega arith) (omega arith) (omega arith) (omega arith),
          look (16 + needs / 16 % 16) 1 (needs / 16 % 16) (omega arith) (omega arith) (omega arith) (omega arith),
          look (32 + needs / 256 % 16) 2 (needs / 256 % 16) (omega arith) (omega arith) (omega arith) (omega arith),
          look (48 + needs / 4096 % 16) 3 (needs / 4096 % 16) (omega arith) (omega arith) (omega arith) (omega arith),
        ) (same (looks (has sets i)) (has sets i && every_below 16 (kept i)) (there (has sets i)) (back (has sets i)))

-- those that enable a rule are a word, as the sets are
pub needed_lt : (fours : List ℕ) (needs sets : ℕ) → sets < 2 ^ 64 → needed_of fours needs sets < 2 ^ 64
unfolding needed_of
needed_lt fours needs sets h = ⊆→< (needed_of fours needs sets) sets 64
    (λ i t. first (has sets i) _ _ _ _ (subst T (and_bits sets _ _ _ _ i) t)) h
  where
    first : (s a b c d : Bool) → T ((((s && a) && b) && c) && d) → T s
    first s a b c d t = and_left s a (and_left (s && a) b (and_left ((s && a) && b) c (and_left (((s && a) && b) && c) d t)))

module _ (p : Policy) (q : Query) (ok : Accepted p q) (done w : ℕ) (small : w ≤ 1023) where
  -- those of the sets that enable a rule
  module _ (sets : ℕ) (bound : sets < 2 ^ 64) (r : Rule) (fits : r.needs < 2 ^ 16) where
    abbrev world : List ℕ
    world = table 16 (gathered (base p q ok done w small) (leads p q ok done w small) w)

    module _ (i : ℕ) (h : i < 64) where
      world_bit : (b : ℕ) → b < 16 → has (get_or world b 0) i ≡ has (world_of p done (set_at w i)) b
      world_bit b k = ap (λ (x : ℕ). has x i)
          (table_at 16 (gathered (base p q ok done w small) (leads p q ok done w small) w) b 0 k ∙ gathered_is p q ok done w small b)
          ∙ packed_bit 64 (λ j. has (world_of p done (set_at w j)) b) i h

      enabling : every_below 16 (kept world r.needs i) ≡ enabled (world_of p done (set_at w i)) r
      enabling = same (every_below 16 (kept world r.needs i)) (enabled (world_of p done (set_at w i)) r)
          (λ t. (contains_iff (world_of p done (set_at w i)) r.needs).1 (λ b u.
          let few : b < 16 = has→< r.needs b 16 u fits in
          ⊎_elim {C = T (has (world_of p done (set_at w i)) b)}
          (λ (n : T (not (has r.needs b))). absurd (T_not (has r.needs b) n u))
          (λ (v : T (has (get_or world b 0) i)). subst T (world_bit b few) v)
          (or_cases (not (has r.needs b)) (has (get_or world b 0) i) (every_below_at (kept world r.needs i) 16 t b few))))
          (λ t. every_below_make (kept world r.needs i) 16 (λ b few. ⊎_elim {C = T (kept world r.needs i b)}
          (λ (u : T (has r.needs b)). or_right (not (has r.needs b)) (has (get_or world b 0) i)
          (subst T (sym (world_bit b few)) ((contains_iff (world_of p done (set_at w i)) r.needs).0 t b u)))
          (λ (n : T (not (has r.needs b))). or_left (not (has r.needs b)) (has (get_or world b 0) i) n)
          (either (has r.needs b))))

    pub needed_bit : (i : ℕ) → has (needed_of (fours_of world) r.needs sets) i ≡ (has sets i && enabled (world_of p done (set_at w i)) r)
    needed_bit i = elim (dec_lt i 64) [
      | yes h ↦ needed_kept world r.needs i h sets
          ∙ and_same (has sets i) (every_below 16 (kept world r.needs i)) (enabled (world_of p done (set_at w i)) r) (λ t. enabling i h)
      | no n ↦ is_false (has (needed_of (fours_of world) r.needs sets) i)
          (λ t. n (has→< (needed_of (fours_of world) r.needs sets) i 64 t (needed_lt (fours_of world) r.needs sets bound)))
          ∙ sym (is_false (has sets i && enabled (world_of p done (set_at w i)) r)
          (λ t. n (has→< sets i 64 (and_left (has sets i) (enabled (world_of p done (set_at w i)) r) t) bound)))
    ]
