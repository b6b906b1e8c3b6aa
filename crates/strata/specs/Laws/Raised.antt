-- How rules raise levels: never above levels that fit, and as long as they do not fit, higher with each round.
use Prim.Native.Nat.{ℕ, zero, suc, ◌+◌, ◌*◌, ◌≤◌, ◌<◌, max, zero-le}
use Rattle.std.specs.Prelude.{Bool, true, false, ◌≡◌, T, length, get_or, set, replicate}
use mathlib.Core.List.{List, [], ◌∷◌, ◌++◌, Memᴰ}
use Rattle.std.proofs.Common.{⊎_elim, ◌∙◌, arith, length-set, get_or-set_same, get_or-set_other}
use Rattle.std.proofs.Math.Path.{refl}
use Rattle.std.proofs.Math.Decide.{ℕ_discrete, dec_lt}
use Rattle.std.proofs.Math.Nat.{le_refl, le-max_left, le-max_right, max-le}
use Rattle.std.proofs.Math.Dec.{ltb, lt→ltb}
use Rattle.std.proofs.lemmas.List.{length-replicate, set-get_or}
use Rattle.base.specs.Laws.Totals.{total, total_set, total_most}
use Rattle.base.specs.Laws.Tests.{and_make, every_make, get_or_filled, last_or_below}
use Rattle.policy.specs.declared.Policy.{Policy}
use Rattle.policy.specs.declared.Rule.{Rule}
use Rattle.policy.specs.Record.{listed, rule_of, head_of, with_levels}
use Rattle.policy.specs.Questions.{levels_below, rule_levels_fit}
use Rattle.policy.specs.Laws.{InRange, levels_fit_lem}
use Rattle.strata.specs.Levels.{above, asked, fits, raised}

module _ (level : List ℕ) (step : ℕ) where
  -- it is no lower than the level that it starts from
  above_own : (own : ℕ) (ds : List ℕ) → own ≤ above level step own ds
  unfolding above
  above_own own [] = le_refl own
  above_own own (d ∷ ds) = omega (arith, le-max_left own (get_or level d 0 + step), above_own (max own (get_or level d 0 + step)) ds)

  -- it lies above the level of each decision listed
  above_each : (own : ℕ) (ds : List ℕ) (d : ℕ) → Memᴰ d ds → get_or level d 0 + step ≤ above level step own ds
  unfolding above
  above_each own [] d m = elim m [ ]
  above_each own (e ∷ ds) d (Memᴰ.head same) = rw same
      (omega (arith, le-max_right own (get_or level e 0 + step), above_own (max own (get_or level e 0 + step)) ds))
  above_each own (e ∷ ds) d (Memᴰ.tail m) = above_each (max own (get_or level e 0 + step)) ds d m

  -- and no lower level does both
  above_least : (own bound : ℕ) (ds : List ℕ) → own ≤ bound → ((d : ℕ) → Memᴰ d ds → get_or level d 0 + step ≤ bound)
      → above level step own ds ≤ bound
  unfolding above
  above_least own bound [] h each = h
  above_least own bound (d ∷ ds) h each = above_least (max own (get_or level d 0 + step)) bound ds
      (max-le h (each d (Memᴰ.head refl))) (λ e m. each e (Memᴰ.tail m))

  -- one decision more
  pub above_more : (own : ℕ) (ds : List ℕ) (d : ℕ)
      → above level step own (ds ++ (d ∷ [])) ≡ max (above level step own ds) (get_or level d 0 + step)
  unfolding above
  above_more own [] d = refl
  above_more own (e ∷ ds) d = above_more (max own (get_or level e 0 + step)) ds d

module _ (level : List ℕ) (r : Rule) where
  abbrev own : ℕ
  own = get_or level r.head 0

  abbrev by_ifs : ℕ
  by_ifs = above level 0 own (listed r.ifs)

  -- a rule asks for no lower level than its head has
  pub asked_own : own ≤ asked level r
  unfolding asked
  asked_own = omega (arith, above_own level 0 own (listed r.ifs), above_own level 1 by_ifs (listed r.unless))

  -- for none lower than its if decisions have, and a higher one than its unless decisions have
  asked_ifs : (d : ℕ) → Memᴰ d (listed r.ifs) → get_or level d 0 ≤ asked level r
  unfolding asked
  asked_ifs d m = omega (arith, above_each level 0 own (listed r.ifs) d m, above_own level 1 by_ifs (listed r.unless))

  asked_unless : (d : ℕ) → Memᴰ d (listed r.unless) → get_or level d 0 < asked level r
  unfolding asked
  asked_unless d m = omega (arith, above_each level 1 by_ifs (listed r.unless) d m)

  -- and for no higher one
  pub asked_least : (bound : ℕ) → own ≤ bound → ((d : ℕ) → Memᴰ d (listed r.ifs) → get_or level d 0 ≤ bound)
      → ((d : ℕ) → Memᴰ d (listed r.unless) → get_or level d 0 < bound) → asked level r ≤ bound
  unfolding asked
  asked_least bound h ifs unless = above_least level 1 by_ifs bound (listed r.unless)
      (above_least level 0 own bound (listed r.ifs) h (λ d m. omega (arith, ifs d m))) (λ d m. omega (arith, unless d m))

  -- a rule that asks for no higher level than its head has is met
  pub asked_met : asked level r ≤ own → T (rule_levels_fit level r)
  unfolding rule_levels_fit levels_below
  asked_met h =
      let ifs = every_make (λ d. ltb (get_or level d 0) (own + 1)) (listed r.ifs)
      (λ d m. lt→ltb (get_or level d 0) (own + 1) (omega (arith, asked_ifs d m))) in
      let unless = every_make (λ d. ltb (get_or level d 0) own) (listed r.unless)
      (λ d m. lt→ltb (get_or level d 0) own (omega (arith, asked_unless d m))) in
      search and_make

-- an entry of a list in which one was changed
set_case : (P : ℕ → Type 0) (l : List ℕ) (i v d : ℕ) → i < length l → (d ≡ i → P v) → P (get_or l d 0) → P (get_or (set l i v) d 0)
set_case P l i v d h here there = elim (ℕ_discrete d i) [
  | yes e ↦ rw (e, get_or-set_same l i v 0 h) (here e)
  | no ne ↦ rw (get_or-set_other l i d v 0 ne) there
]

-- each level is at most 15
abbrev pub EachSmall : List ℕ → Type 0
EachSmall level = (d : ℕ) → get_or level d 0 ≤ 15

pub total_small : (l : List ℕ) → EachSmall l → total l ≤ 15 * length l
total_small l h = omega (arith, total_most l 15 h)

module _ (p : Policy) where
  -- levels that raising from 0 may come to: no levels that fit are lower
  pub record Reached (level : List ℕ) : Type 0 where
    pub long : length level ≡ 128
    pub past : (d : ℕ) → p.decisions ≤ d → get_or level d 0 ≡ 0
    pub below : (other : List ℕ) → T (fits p other) → (d : ℕ) → get_or level d 0 ≤ get_or other d 0

  -- the first k rules are met
  abbrev pub Met : ℕ → List ℕ → Type 0
  Met k level = (j : ℕ) → j < k → T (rule_levels_fit level (rule_of p j))

  -- rule k raises the level of its head
  abbrev pub raise : ℕ → List ℕ → List ℕ
  raise k level = set level (head_of p k) (asked level (rule_of p k))

  -- as the rounds start
  pub reached_none : Reached (replicate 128 0)
  reached_none = record {
    long = length-replicate {A = ℕ} 128 0;
    past = λ d h. get_or_filled {A = ℕ} 128 d 0;
    below = λ other t d. rw (get_or_filled {A = ℕ} 128 d 0) zero-le;
  }

  module _ (range : InRange (with_levels p (replicate 128 0))) (k : ℕ) (h : k < p.rules) {level : List ℕ} (so : Reached level) where
    head_inside : head_of p k < length level
    head_inside = omega (arith, (range.rule k h).head, range.decisions, so.long)

    -- the rule asks for no higher level than levels that fit have, so it raises none above them
    pub asked_below : (other : List ℕ) → T (fits p other) → asked level (rule_of p k) ≤ get_or other (head_of p k) 0
    asked_below other t = let fit = levels_fit_lem (with_levels p other) t in
        asked_least level (rule_of p k) (get_or other (head_of p k) 0) (so.below other t (head_of p k))
        (λ d m. omega (arith, so.below other t d, fit.ifs k d h m)) (λ d m. omega (arith, so.below other t d, fit.unless k d h m))

    pub reached_raise : Reached (raise k level)
    reached_raise = record {
      long = length-set level (head_of p k) (asked level (rule_of p k)) ∙ so.long;
      past = λ d past. set_case (λ l. l ≡ 0) level (head_of p k) (asked level (rule_of p k)) d head_inside
          (λ e. absurd (omega (arith, (range.rule k h).head))) (so.past d past);
      below = λ other t d. set_case (λ l. l ≤ get_or other d 0) level (head_of p k) (asked level (rule_of p k)) d head_inside
          (λ e. rw e (asked_below other t)) (so.below other t d);
    }

    -- where the rule asks for more than its head has, the sum is higher
    raise_higher : get_or level (head_of p k) 0 < asked level (rule_of p k) → total level < total (raise k level)
    raise_higher more = omega (arith, total_set level (head_of p k) (asked level (rule_of p k)) head_inside)

    -- and else nothing changes
    raise_idle : asked level (rule_of p k) ≤ get_or level (head_of p k) 0 → raise k level ≡ level
    raise_idle low =
        let same : asked level (rule_of p k) ≡ get_or level (head_of p k) 0 = omega (arith, asked_own level (rule_of p k)) in
        rw same (set-get_or level (head_of p k) 0)

    -- each level stays in range where what the rule asks for is
    pub raise_small : EachSmall level → asked level (rule_of p k) ≤ 15 → EachSmall (raise k level)
    raise_small small low d =
        set_case (λ l. l ≤ 15) level (head_of p k) (asked level (rule_of p k)) d head_inside (λ e. low) (small d)

  -- whether a level was raised since k rules: if none was, these rules are met, and else the sum is higher
  abbrev pub Since : List ℕ → ℕ → List ℕ → Bool → Type 0
  Since before k level false = (level ≡ before) × Met k before
  Since before k level true = total before < total level

  met_more : (k : ℕ) (level : List ℕ) → T (rule_levels_fit level (rule_of p k)) → Met k level → Met (suc k) level
  met_more k level here met j l = ⊎_elim (λ (e : j ≡ k). rw e here) (met j) (last_or_below l)

  module _ (range : InRange (with_levels p (replicate 128 0))) (k : ℕ) (h : k < p.rules) (before : List ℕ) {level : List ℕ}
      (so : Reached level) where
    -- rule k raises a level
    pub since_raised : get_or level (head_of p k) 0 < asked level (rule_of p k) → (b : Bool) → Since before k level b
        → Since before (suc k) (raise k level) true
    since_raised more false (same, met) = rw (← same) (raise_higher range k h so more)
    since_raised more true l = omega (arith, raise_higher range k h so more)

    -- or is met as it is
    pub since_kept : asked level (rule_of p k) ≤ get_or level (head_of p k) 0 → (b : Bool) → Since before k level b
        → Since before (suc k) level b
    since_kept low false (same, met) = (same, met_more k before (rw (← same) (asked_met level (rule_of p k) low)) met)
    since_kept low true l = l

    one_more : (b : Bool) × Since before k level b → (b : Bool) × Since before (suc k) (raise k level) b
    one_more (b, since) = elim (dec_lt (get_or level (head_of p k) 0) (asked level (rule_of p k))) [
      | yes more ↦ (true, since_raised more b since)
      | no low ↦ (b, rw (raise_idle range k h so (omega arith)) (since_kept (omega arith) b since))
    ]

  module _ (range : InRange (with_levels p (replicate 128 0))) where
    -- a round of n rules
    pub reached_raised : (n : ℕ) → n ≤ p.rules → (level : List ℕ) → Reached level → Reached (raised p n level)
    unfolding raised
    reached_raised zero h level so = so
    reached_raised (suc n) h level so = reached_raise range n (omega arith) (reached_raised n (omega arith) level so)

    pub since_round : (n : ℕ) → n ≤ p.rules → (level : List ℕ) → Reached level → (b : Bool) × Since level n (raised p n level) b
    unfolding raised
    since_round zero h level so = (false, (refl, λ j l. absurd (omega arith)))
    since_round (suc n) h level so = one_more range n (omega arith) level (reached_raised n (omega arith) level so)
        (since_round n (omega arith) level so)
