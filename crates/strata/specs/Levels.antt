-- The lowest levels that fit a policy's rules: what the call that finds them promises, and how it finds them.
use Rattle.std.specs.Prelude.{ℕ, zero, suc, ◌+◌, ◌≤◌, max, Bool, true, false, List, [], ◌∷◌, ◌↔◌, ◌≢◌, ◌≡◌, T, length, get_or, set, take, replicate, Result, Ok, Err}
use Rattle.std.specs.List.{list_all}
use Rattle.policy.specs.declared.Policy.{Policy}
use Rattle.policy.specs.declared.Rule.{Rule}
use Rattle.policy.specs.Record.{listed, rule_of, head_of, with_levels}
use Rattle.policy.specs.Questions.{Question, first_no, level_in_range, others_in_range, lists_rise, levels_fit, weights_fit, refused_or, check_of}
use Rattle.policy.specs.declared.refusal.Refusal.{Refusal}
use Rattle.policy.specs.Refusal.{number_of}
use Rattle.strata.specs.declared.Levelling.{Levelling}

module _ (p : Policy) where
  -- question 5 with these levels, and the part of question 3 that is put to levels
  abbrev pub fits : List ℕ → Bool
  fits level = levels_fit (with_levels p level)

  abbrev pub small : List ℕ → Bool
  small level = list_all level_in_range (take p.decisions level)

  -- these levels fit, are 0 to 15, and none that fit have a lower one
  pub record Lowest (level : List ℕ) : Type 0 where
    pub places : length level ≡ 128
    pub fit : T (fits level)
    pub range : (d : ℕ) → get_or level d 0 ≤ 15
    pub least : (other : List ℕ) → T (fits other) → (d : ℕ) → get_or level d 0 ≤ get_or other d 0
    -- past the count they are 0
    pub past : (d : ℕ) → p.decisions ≤ d → get_or level d 0 ≡ 0
    -- put in place of the policy's own they are accepted by questions 3 to 5, so that only 6 is left to ask
    pub accepted : T (weights_fit p) → check_of (with_levels p level) ≡ 0

  -- what is promised of the answer
  pub record FindsLevels (r : Levelling) : Type 0 where
    pub found : r.refusal ≡ 0 → Lowest r.level
    pub three : (r.refusal ≡ 3) ↔ (¬ T (others_in_range p))
    pub four : (r.refusal ≡ 4) ↔ (T (others_in_range p) × ¬ T (lists_rise p))
    pub nine : (r.refusal ≡ 9) ↔ (T (others_in_range p) × T (lists_rise p) × ((level : List ℕ) → T (small level) → T (fits level) → ⊥))
    pub zeros : r.refusal ≢ 0 → r.level ≡ replicate 128 0

-- ---- how it is computed, which need not be believed: `FindsLevels` says all of the answer

-- the lowest level, from `own` up, that lies at least `step` above that of each decision listed
unfoldable pub above : List ℕ → ℕ → ℕ → List ℕ → ℕ
above level step own [] = own
above level step own (d ∷ ds) = above level step (max own (get_or level d 0 + step)) ds

-- the lowest level of its head, from the one it has up, that fits a rule
unfoldable pub asked : List ℕ → Rule → ℕ
asked level r = above level 1 (above level 0 (get_or level r.head 0) (listed r.ifs)) (listed r.unless)

-- a refusal: every level is 0
abbrev pub refused_levels : ℕ → Levelling
refused_levels n = record { refusal = n; level = replicate 128 0 }

-- the answer that levels or a refusal are handed back as
abbrev pub levelling : Result (List ℕ) Refusal → Levelling
levelling (Ok level) = record { refusal = 0; level = level }
levelling (Err e) = refused_levels (number_of e)

module _ (p : Policy) where
  -- each of the first n rules in turn raises the level of its head as far as it asks
  unfoldable pub raised : ℕ → List ℕ → List ℕ
  raised zero level = level
  raised (suc n) level = let now = raised n level in set now (head_of p n) (asked now (rule_of p n))

  -- at most n rounds of all rules, until question 5 is answered yes
  unfoldable pub rounds : ℕ → List ℕ → List ℕ
  rounds zero level = level
  rounds (suc n) level = elim (fits p level) [ true ↦ level | false ↦ rounds n (raised p.rules level) ]

  -- from 0 up. Each round raises a level, and 128 levels of at most 15 are raised 1,920 times: after one round more they
  -- fit, or one of them is higher
  unfoldable pub lowest : List ℕ
  lowest = rounds 1921 (replicate 128 0)

  -- question 3 with the levels left out, 4, and 9: are levels from 0 to 15 high enough?
  unfoldable pub level_questions : List Question
  level_questions =
      record { number = 3; yes = others_in_range p } ∷ record { number = 4; yes = lists_rise p }
      ∷ record { number = 9; yes = small p lowest } ∷ []

  -- what the call returns
  unfoldable pub found_levels : Levelling
  found_levels = refused_or (first_no level_questions) refused_levels (record { refusal = 0; level = lowest })
