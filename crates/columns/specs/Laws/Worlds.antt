-- The words of the worlds' actions say of each set what its world says.
use Rattle.std.specs.Prelude.{ℕ, ◌^◌, ◌≤◌, ◌<◌, Bool, true, false, ◌&&◌, ◌||◌, cond, List, ◌⊎◌, ◌≡◌, T, get_or}
use Rattle.std.proofs.Common.{⊎_elim, inl, inr, sym, ◌∙◌, ap, subst, lit<}
use Rattle.std.specs.Int.Bits.{bit_or}
use Rattle.std.proofs.lemmas.Nat.{or_lt}
use Rattle.base.specs.Every.{some_below}
use Rattle.base.specs.Lists.{table}
use Rattle.base.specs.Laws.Tables.{table_at}
use Rattle.base.specs.Laws.Tests.{same, is_false, and_make, and_left, and_right, or_left, or_right, or_cases, some_below_at}
use Rattle.base.specs.Laws.Tests.{some_below_make}
use Rattle.mask.specs.Mask.{has}
use Rattle.mask.specs.Packed.{packed}
use Rattle.mask.specs.Laws.{has→<, has_none}
use Rattle.mask.specs.Laws.Packed.{packed_bit, packed_only}
use Rattle.policy.specs.declared.Policy.{Policy}
use Rattle.policy.specs.declared.Query.{Query}
use Rattle.policy.specs.Questions.{Accepted}
use Rattle.model.specs.World.{world_of, InWorld}
use Rattle.model.specs.Laws.Worlds.{world_holds}
use Rattle.columns.specs.Sets.{all_sets, set_at, column_of, gathered}
use Rattle.columns.specs.Laws.Columns.{all_set, set_small}
use Rattle.columns.specs.Laws.Picked.{picked_joins, picked_lt}
use Rattle.columns.specs.Laws.Offered.{column_bit, column_lt}
use Rattle.columns.specs.Laws.Spread.{By, spread, gather}

-- every bit of a word, or none
pub all_or_none : (b : Bool) (i : ℕ) → i < 64 → has (cond b all_sets 0) i ≡ b
all_or_none true i h = ap (λ (x : ℕ). has x i) all_set ∙ packed_bit 64 (λ j. true) i h
all_or_none false i h = is_false (has 0 i) (has_none i)

all_lt : (b : Bool) → cond b all_sets 0 < 2 ^ 64
all_lt true = lit< tt
all_lt false = lit< tt

module _ (p : Policy) (q : Query) (ok : Accepted p q) (done w : ℕ) (small : w ≤ 1023) where
  -- what action a leads to by itself
  abbrev pub leads : List ℕ
  leads = table 16 (λ a. world_of p 0 (2 ^ a))

  abbrev pub base : ℕ
  base = world_of p done 0

  module _ (b i : ℕ) (h : i < 64) where
    abbrev one : ℕ → Bool
    one a = has (get_or leads a 0) b && has (column_of w a) i

    there : T (has (cond (has base b) all_sets 0) i || some_below 16 one) → T (has (world_of p done (set_at w i)) b)
    there t = (world_holds p q ok done (set_at w i) b).1 (gather p done (set_at w i) b
        (⊎_elim {C = InWorld p done 0 b ⊎ By p done (set_at w i) b}
        (λ (u : T (has (cond (has base b) all_sets 0) i)).
        inl ((world_holds p q ok done 0 b).0 (subst T (all_or_none (has base b) i h) u)))
        (λ (u : T (some_below 16 one)).
        let found = some_below_at one 16 u in
        let a : ℕ = found.0 in
        inr (
          a,
          subst T (column_bit w a i h) (and_right (has (get_or leads a 0) b) (has (column_of w a) i) found.2),
          (world_holds p q ok 0 (2 ^ a) b).0 (subst (λ (x : ℕ). T (has x b)) (table_at 16 (λ k. world_of p 0 (2 ^ k)) a 0 found.1)
              (and_left (has (get_or leads a 0) b) (has (column_of w a) i) found.2)),
        ))
        (or_cases (has (cond (has base b) all_sets 0) i) (some_below 16 one) t)))

    back : T (has (world_of p done (set_at w i)) b) → T (has (cond (has base b) all_sets 0) i || some_below 16 one)
    back t = ⊎_elim {C = T (has (cond (has base b) all_sets 0) i || some_below 16 one)}
        (λ (r : InWorld p done 0 b). or_left (has (cond (has base b) all_sets 0) i) (some_below 16 one)
        (subst T (sym (all_or_none (has base b) i h)) ((world_holds p q ok done 0 b).1 r)))
        (λ (r : By p done (set_at w i) b). or_right (has (cond (has base b) all_sets 0) i) (some_below 16 one) (make r))
        (spread p done (set_at w i) b ((world_holds p q ok done (set_at w i) b).0 t))
      where
        make : By p done (set_at w i) b → T (some_below 16 one)
        make (a, u, r) =
            let few : a < 16 = has→< (set_at w i) a 16 u (set_small w i small h) in
            some_below_make one 16 a few (and_make (has (get_or leads a 0) b) (has (column_of w a) i)
            (subst (λ (x : ℕ). T (has x b)) (sym (table_at 16 (λ k. world_of p 0 (2 ^ k)) a 0 few)) ((world_holds p q ok 0 (2 ^ a) b).1 r))
            (subst T (sym (column_bit w a i h)) u))

  -- the sets whose world has action b
  pub gathered_is : (b : ℕ) → gathered base leads w b ≡ packed 64 (λ i. has (world_of p done (set_at w i)) b)
  unfolding gathered
  gathered_is b = packed_only 64 (gathered base leads w b) (λ i. has (world_of p done (set_at w i)) b)
      (picked_lt 64 bit_or (λ a. has (get_or leads a 0) b) (column_of w) (cond (has base b) all_sets 0)
      (or_lt 64) (all_lt (has base b)) (column_lt w) 16)
      (λ i h. picked_joins (λ a. has (get_or leads a 0) b) (column_of w) (cond (has base b) all_sets 0) i 16
      ∙ same (has (cond (has base b) all_sets 0) i || some_below 16 (one b i h)) (has (world_of p done (set_at w i)) b) (there b i h)
      (back b i h))
