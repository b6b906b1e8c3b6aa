-- The levels found are the lowest that fit, and refusal 9 is given exactly when there are none.
use Prim.Native.Nat.{ℕ, zero, suc, ◌+◌, ◌≤◌, ◌<◌}
use Rattle.std.specs.Prelude.{Bool, List, [], ◌∷◌, ◌≡◌, get_or, replicate}
use Rattle.std.proofs.Math.Bool.{true, false}
use Rattle.std.proofs.Math.Path.{refl}
use Rattle.std.proofs.Common.{sym, ◌∙◌, ap, le_refl, le_antisymm, arith, ext_get_or}
use Rattle.std.proofs.Math.Decide.{dec_lt}
use Rattle.std.proofs.Math.Dec.{T, le→leb}
use Rattle.base.specs.Laws.Tests.{is_true, passes, not_both, choice, get_or_filled, entries_make}
use Rattle.base.specs.Laws.Totals.{total}
use Rattle.policy.specs.declared.Policy.{Policy}
use Rattle.policy.specs.Record.{no_rule, with_levels}
use Rattle.policy.specs.Questions.{first_no, level_in_range, rule_levels_fit, others_in_range, lists_rise, levels_fit, weights_fit, questions}
use Rattle.policy.specs.Questions.{refused_or, check_of}
use Rattle.policy.specs.Laws.{levels_small, InRange, in_range_lem, range_with, answered_with, first_no_zero}
use Rattle.strata.specs.Levels.{fits, small, raised, rounds, lowest, level_questions, refused_levels, found_levels, Lowest}
use Rattle.strata.specs.Levels.{FindsLevels}
use Rattle.strata.specs.Laws.Raised.{EachSmall, total_small, Reached, Met, Since, reached_none, reached_raised, since_round}

module _ (p : Policy) where
  -- levels in range are at most 15, where they are 0 past the count
  pub small_each : (level : List ℕ) → Reached p level → T (small p level) → EachSmall level
  small_each level so t d = elim (dec_lt d p.decisions) [
    | yes h ↦ levels_small p.decisions level t d h
    | no h ↦ omega (arith, so.past d (omega arith))
  ]

  -- and the other way round
  pub each_small : (level : List ℕ) → EachSmall level → T (small p level)
  unfolding level_in_range
  each_small level h = entries_make level_in_range 0 p.decisions level (λ d l. le→leb (get_or level d 0) 15 (h d))

  -- levels that meet all rules fit
  pub met_fits : (level : List ℕ) → Met p p.rules level → T (fits p level)
  unfolding levels_fit
  met_fits level met = entries_make (rule_levels_fit level) no_rule p.rules p.rule met

  module _ (range : InRange (with_levels p (replicate 128 0))) where
    abbrev round : List ℕ → List ℕ
    round = raised p p.rules

    reached_round : (level : List ℕ) → Reached p level → Reached p (round level)
    reached_round = reached_raised p range p.rules (le_refl p.rules)

    -- a round of levels that do not fit raises their sum
    higher : (level : List ℕ) → Reached p level → fits p level ≡ false → total level < total (round level)
    higher level so e = go (since_round p range p.rules (le_refl p.rules) level so)
      where
        go : (b : Bool) × Since p level p.rules (round level) b → total level < total (round level)
        go (false, (same, met)) = absurd (not_both (is_true (fits p level) (met_fits level met)) e)
        go (true, l) = l

    -- the rounds are over, or one more is due
    rounds_case : (P : List ℕ → Type 0) (n : ℕ) (level : List ℕ) → (fits p level ≡ true → P level)
        → (fits p level ≡ false → P (rounds p n (round level))) → P (rounds p (suc n) level)
    unfolding rounds
    rounds_case P n level over due = go (fits p level) refl
      where
        go : (b : Bool) → fits p level ≡ b → P (elim b [ true ↦ level | false ↦ rounds p n (round level) ])
        go true e = over e
        go false e = due e

    reached_rounds : (n : ℕ) (level : List ℕ) → Reached p level → Reached p (rounds p n level)
    unfolding rounds
    reached_rounds zero level so = so
    reached_rounds (suc n) level so =
        rounds_case (Reached p) n level (λ e. so) (λ e. reached_rounds n (round level) (reached_round level so))

    -- the rounds end: the sum of levels in range is below 1,921
    settles : (n : ℕ) (level : List ℕ) → Reached p level → 1921 ≤ n + total level → T (small p (rounds p n level))
        → T (fits p (rounds p n level))
    unfolding rounds
    settles zero level so enough = λ t. absurd (omega (arith, so.long, total_small level (small_each level so t)))
    settles (suc n) level so enough =
        rounds_case (λ end. T (small p end) → T (fits p end)) n level (λ e t. passes (fits p level) e)
        (λ e. settles n (round level) (reached_round level so) (omega (arith, higher level so e)))

    -- so the lowest levels are reached, and fit where they are in range
    pub reached_lowest : Reached p (lowest p)
    unfolding lowest
    reached_lowest = reached_rounds 1921 (replicate 128 0) (reached_none p)

    pub lowest_fits : T (small p (lowest p)) → T (fits p (lowest p))
    unfolding lowest
    lowest_fits = settles 1921 (replicate 128 0) (reached_none p) (omega arith)

    -- which they are where any levels are that fit
    pub lowest_small : (other : List ℕ) → T (small p other) → T (fits p other) → T (small p (lowest p))
    unfolding level_in_range
    lowest_small other t f = entries_make level_in_range 0 p.decisions (lowest p) (λ d h. le→leb (get_or (lowest p) d 0) 15
        (omega (arith, reached_lowest.below other f d, levels_small p.decisions other t d h)))

    -- levels that are reached and fit are the lowest
    pub lowest_only : (level : List ℕ) → Reached p level → T (small p level) → T (fits p level) → level ≡ lowest p
    lowest_only level so t f = ext_get_or 0 level (lowest p) (so.long ∙ sym reached_lowest.long)
        (λ d h. le_antisymm (so.below (lowest p) (lowest_fits (lowest_small level t f)) d) (reached_lowest.below level f d))

    -- put in place of the policy's own they leave only question 6 to ask
    put_in : T (others_in_range p) → T (lists_rise p) → T (small p (lowest p)) → T (weights_fit p) → check_of (with_levels p (lowest p)) ≡ 0
    unfolding check_of lists_rise weights_fit
    put_in others rise t weights = first_no_zero (questions (with_levels p (lowest p)) true) (answered_with {rest = true} (record {
      range = range_with p (lowest p) others t;
      given = tt;
      rise = rise;
      levels = lowest_fits t;
      weights = weights;
    }) true tt)

    is_lowest : T (others_in_range p) → T (lists_rise p) → T (small p (lowest p)) → Lowest p (lowest p)
    is_lowest others rise t = record {
      places = reached_lowest.long;
      fit = lowest_fits t;
      range = small_each (lowest p) reached_lowest t;
      least = reached_lowest.below;
      past = reached_lowest.past;
      accepted = put_in others rise t;
    }

  -- where question 3 is answered yes, the levels left out
  pub others_range : T (others_in_range p) → InRange (with_levels p (replicate 128 0))
  others_range others =
      in_range_lem (with_levels p (replicate 128 0)) (range_with p (replicate 128 0) others (each_small (replicate 128 0) zeros))
    where
      zeros : EachSmall (replicate 128 0)
      zeros d = omega (arith, get_or_filled {A = ℕ} 128 d 0)

  -- the first question answered no is 3, 4 or 9, or there is none
  asked_case : (P : ℕ → Type 0) → (¬ T (others_in_range p) → P 3) → (T (others_in_range p) → ¬ T (lists_rise p) → P 4)
      → (T (others_in_range p) → T (lists_rise p) → ¬ T (small p (lowest p)) → P 9)
      → (T (others_in_range p) → T (lists_rise p) → T (small p (lowest p)) → P 0) → P (first_no (level_questions p))
  unfolding level_questions first_no
  asked_case P three four nine none = go (others_in_range p) (lists_rise p) (small p (lowest p)) three four nine none
    where
      go : (a b c : Bool) → (¬ T a → P 3) → (T a → ¬ T b → P 4) → (T a → T b → ¬ T c → P 9) → (T a → T b → T c → P 0)
          → P (first_no (record { number = 3; yes = a } ∷ record { number = 4; yes = b } ∷ record { number = 9; yes = c } ∷ []))
      go false b c three four nine none = three (λ t. t)
      go true false c three four nine none = four tt (λ t. t)
      go true true false three four nine none = nine tt tt (λ t. t)
      go true true true three four nine none = none tt tt tt

  pub finds_levels : FindsLevels p (found_levels p)
  unfolding found_levels refused_or
  finds_levels = asked_case (λ n. FindsLevels p (refused_or n refused_levels (record { refusal = 0; level = lowest p })))
      (λ three. record {
        found = λ e. absurd (omega (arith, e));
        three = (λ e. three, λ no. refl);
        four = (λ e. absurd (omega (arith, e)), λ yes. absurd (three yes.0));
        nine = (λ e. absurd (omega (arith, e)), λ yes. absurd (three yes.0));
        zeros = λ ne. refl;
      })
      (λ three four. record {
        found = λ e. absurd (omega (arith, e));
        three = (λ e. absurd (omega (arith, e)), λ no. absurd (no three));
        four = (λ e. (three, four), λ yes. refl);
        nine = (λ e. absurd (omega (arith, e)), λ yes. absurd (four yes.1));
        zeros = λ ne. refl;
      })
      (λ three four nine. record {
        found = λ e. absurd (omega (arith, e));
        three = (λ e. absurd (omega (arith, e)), λ no. absurd (no three));
        four = (λ e. absurd (omega (arith, e)), λ yes. absurd (yes.1 four));
        nine = (λ e. (three, four, λ level t f. nine (lowest_small (others_range three) level t f)), λ yes. refl);
        zeros = λ ne. refl;
      })
      (λ three four nine. record {
        found = λ e. is_lowest (others_range three) three four nine;
        three = (λ e. absurd (omega (arith, e)), λ no. absurd (no three));
        four = (λ e. absurd (omega (arith, e)), λ yes. absurd (yes.1 four));
        nine = (λ e. absurd (omega (arith, e)), λ yes. absurd (yes.2 (lowest p) nine (lowest_fits (others_range three) nine)));
        zeros = λ ne. absurd (ne refl);
      })

  -- what the call returns, by its questions
  pub found_three : others_in_range p ≡ false → found_levels p ≡ refused_levels 3
  unfolding found_levels level_questions first_no refused_or
  found_three three = rw three

  pub found_four : others_in_range p ≡ true → lists_rise p ≡ false → found_levels p ≡ refused_levels 4
  unfolding found_levels level_questions first_no refused_or
  found_four three four = rw (three, four)

  module _ (three : others_in_range p ≡ true) (four : lists_rise p ≡ true) where
    pub found_nine : small p (lowest p) ≡ false → found_levels p ≡ refused_levels 9
    unfolding found_levels level_questions first_no refused_or
    found_nine nine = rw (three, four, nine)

    pub found_lowest : small p (lowest p) ≡ true → found_levels p ≡ record { refusal = 0; level = lowest p }
    unfolding found_levels level_questions first_no refused_or
    found_lowest nine = rw (three, four, nine)

-- levels are found alike for policies whose levels fit alike and are raised alike
pub rounds_same : (p p' : Policy) → ((level : List ℕ) → fits p level ≡ fits p' level)
    → ((level : List ℕ) → raised p p.rules level ≡ raised p' p'.rules level)
    → (n : ℕ) (level : List ℕ) → rounds p n level ≡ rounds p' n level
unfolding rounds
rounds_same p p' fit raise zero level = refl
rounds_same p p' fit raise (suc n) level = choice (fit level) refl
    (rounds_same p p' fit raise n (raised p p.rules level) ∙ ap (rounds p' n) (raise level))

-- the policy's own levels are not looked at
module _ (p : Policy) (own : List ℕ) where
  raised_unread : (n : ℕ) (level : List ℕ) → raised (with_levels p own) n level ≡ raised p n level
  unfolding raised
  raised_unread zero level = refl
  raised_unread (suc n) level = rw (raised_unread n level)

  pub levels_unread : found_levels (with_levels p own) ≡ found_levels p
  unfolding found_levels level_questions lowest others_in_range lists_rise
  levels_unread =
      rw (rounds_same (with_levels p own) p (λ level. refl) (raised_unread p.rules) 1921 (replicate 128 0))
