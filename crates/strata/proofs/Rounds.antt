-- The loops that raise levels: what holds at each turn.
use Prim.Native.Nat.{ℕ, ◌+◌, ◌-◌, ◌≤◌, ◌<◌, max, zero-le}
use mathlib.Core.Bool.{Bool, true, false}
use mathlib.Core.List.{List}
use mathlib.Core.Path.{◌≡◌, refl, sym, ◌∙◌, ap, subst}
use mathlib.Core.Logic.{◌⊎◌, inl, inr}
use native.Mathlib.Decide.{dec_lt}
use native.Mathlib.Numerals.{add-one}
use native.Mathlib.Omega.{arith}
use lib.ListN.{length, take, get_or, set, replicate}
use lib.Seq.{take-suc, take_all}
use Rattle.base.specs.Laws.Tests.{is_true, is_false, passes, get_or_filled}
use Rattle.base.specs.Laws.Totals.{total}
use Rattle.policy.specs.declared.Policy.{Policy}
use Rattle.policy.specs.declared.Rule.{Rule}
use Rattle.policy.specs.Record.{no_rule, rule_of, rules_of, head_of, with_levels}
use Rattle.policy.proofs.Arrays.{front_entry}
use Rattle.policy.specs.Questions.{others_in_range, lists_rise}
use Rattle.policy.specs.Laws.{InRange}
use Rattle.strata.specs.Levels.{above, asked, small, lowest, refused_levels, found_levels}
use Rattle.strata.specs.Laws.Raised.{above_more, total_small, EachSmall, Reached, Since, reached_none, asked_below}
use Rattle.strata.specs.Laws.Raised.{reached_raise, raise_small, since_raised, since_kept}
use Rattle.strata.specs.Laws.Levels.{small_each, each_small, met_fits, reached_lowest, lowest_fits, lowest_only, others_range}
use Rattle.strata.specs.Laws.Levels.{found_nine, found_lowest}

-- `lowest` lies above the levels of the first i of the decisions ds
pub record Over (level : List ℕ) (step own : ℕ) (ds : List ℕ) (lowest i : ℕ) : Type 0 where
  pub within : i ≤ length ds
  pub same : lowest ≡ above level step own (take i ds)

pub over_none : {level : List ℕ} {step own : ℕ} {ds : List ℕ} → Over level step own ds own 0
unfolding above
over_none = record { within = zero-le; same = refl }

module _ {level : List ℕ} {step own : ℕ} {ds : List ℕ} {lowest i : ℕ} (so : Over level step own ds lowest i) where
  -- one decision more
  pub over_more : i < length ds → Over level step own ds (max lowest (get_or level (get_or ds i 0) 0 + step)) (i + 1)
  over_more h = record {
    within = omega arith;
    same = sym (rw (add-one, take-suc ds i 0 h, so.same) (above_more level step own (take i ds) (get_or ds i 0)));
  }

  -- above them all
  pub over_all : length ds ≤ i → lowest ≡ above level step own ds
  over_all h = so.same ∙ ap (above level step own) (take_all i ds h)

-- question 3 is answered yes, the levels left out
pub range : (p : Policy) → others_in_range p ≡ true → InRange (with_levels p (replicate 128 0))
range p three = others_range p (passes (others_in_range p) three)

module _ (p : Policy) where
  -- as a round starts
  pub record AtRound (level : List ℕ) : Type 0 where
    pub reached : Reached p level
    pub small : EachSmall level

  -- after k rules of a round
  pub record AtTurn (before : List ℕ) (k : ℕ) (level : List ℕ) (raised : Bool) : Type 0 where
    pub now : AtRound level
    pub since : Since p before k level raised

  -- as the rounds start
  pub round_first : AtRound (replicate 128 0)
  round_first = record { reached = reached_none p; small = λ d. omega (arith, get_or_filled {A = ℕ} 128 d 0) }

  -- as a round starts
  pub turn_first : {level : List ℕ} → AtRound level → AtTurn level 0 level false
  turn_first so = record { now = so; since = (refl, λ j h. absurd (omega arith)) }

  -- questions 3 and 4 are answered yes
  module _ (three : others_in_range p ≡ true) (four : lists_rise p ≡ true) where
    -- no levels from 0 to 15 meet a rule that asks for more
    too_high : (k : ℕ) (level : List ℕ) → k < p.rules → Reached p level → 15 < asked level (rule_of p k) → refused_levels 9 ≡ found_levels p
    too_high k level h reached high = sym (found_nine p three four (is_false (small p (lowest p)) (λ t.
        omega (
          arith,
          small_each p (lowest p) (reached_lowest p (range p three)) t (head_of p k),
          asked_below p (range p three) k h reached (lowest p) (lowest_fits p (range p three) t),
        ))))

    -- rule k has this head and asks for so much
    module _ {before : List ℕ} {k : ℕ} {level : List ℕ} {raised : Bool} (so : AtTurn before k level raised) (h : k < p.rules)
        {head need : ℕ} (is : head ≡ head_of p k) (asks : need ≡ asked level (rule_of p k)) where
      -- it raises the level of its head
      pub turn_raised : get_or level head 0 < need → need ≤ 15 → AtTurn before (k + 1) (set level head need) true
      turn_raised more low =
          let now = so.now.reached in
          let known = range p three in
          let high : get_or level (head_of p k) 0 < asked level (rule_of p k) = rw (← is, ← asks) more in
          rw (is, asks) (record {
            now = record { reached = reached_raise p known k h now; small = raise_small p known k h now so.now.small (rw (← asks) low) };
            since = since_raised p known k h before now high raised so.since;
          })

      -- or is met as it is
      pub turn_kept : need ≤ get_or level head 0 → AtTurn before (k + 1) level raised
      turn_kept low =
          let met : asked level (rule_of p k) ≤ get_or level (head_of p k) 0 = rw (← is, ← asks) low in
          record { now = so.now; since = rw add-one (since_kept p (range p three) k h before so.now.reached met raised so.since) }

    -- no level was raised by all rules: they are the lowest
    pub rounds_end : {before : List ℕ} {k : ℕ} {level : List ℕ} {raised : Bool} → p.rules ≤ k
        → AtTurn before k level raised → raised ≡ false → record { refusal = 0; level = level } ≡ found_levels p
    rounds_end {before} {k} {level} past so idle =
        let since = rw idle at so.since in
        let t = each_small p level so.now.small in
        let f = met_fits p level (λ j l. rw since.0 (since.1 j (omega arith))) in
        let same = lowest_only p (range p three) level so.now.reached t f in
        rw same (sym (found_lowest p three four (is_true (small p (lowest p)) (rw (← same) t))))

  -- else another round follows, and fewer are left: the sum of 128 levels is at most 1,920
  pub fewer_rounds : {before : List ℕ} {k : ℕ} {level : List ℕ} {raised : Bool} → AtTurn before k level raised → raised ≡ true
      → 1920 - total level < 1920 - total before
  fewer_rounds {before} {k} {level} so up =
      let higher : total before < total level = rw up at so.since in
      omega (arith, higher, total_small level so.now.small, so.now.reached.long)

-- a rule that the loop reads asks for 15 at most, or the policy is refused
pub asks_or_refused : (p : Policy) (k : ℕ) (level : List ℕ) → k < p.rules → AtRound p level → others_in_range p ≡ true → lists_rise p ≡ true
    → (asked level (rule_of p k) ≤ 15) ⊎ (found_levels p ≡ refused_levels 9)
asks_or_refused p k level h at three four = elim (dec_lt 15 (asked level (rule_of p k))) [
  | yes high ↦ inr (sym (too_high p three four k level h at.reached high))
  | no low ↦ inl (omega arith)
]

-- the same of an entry of the list of the rules
pub entry_asks : (p : Policy) (items : List Rule) (k : ℕ) (level : List ℕ) → items ≡ rules_of p → k < length items → length items ≤ p.rules
    → AtRound p level → others_in_range p ≡ true → lists_rise p ≡ true
    → (asked level (get_or items k no_rule) ≤ 15) ⊎ (found_levels p ≡ refused_levels 9)
entry_asks p items k level e h few at three four =
    subst (λ (r : Rule). (asked level r ≤ 15) ⊎ (found_levels p ≡ refused_levels 9)) (sym (front_entry items p.rules p.rule no_rule k e h))
    (asks_or_refused p k level (omega arith) at three four)
