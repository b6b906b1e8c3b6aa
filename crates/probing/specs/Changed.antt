-- The changes of a policy.
use Rattle.std.specs.Prelude.{ℕ, ◌-◌, Bool, true, ◌&&◌, ltb, leb, cond, List, [], ◌∷◌, slice_set, get_or, Option, Some, None}
use Rattle.policy.specs.Record.{rule_of, no_action}
use Rattle.policy.specs.declared.Policy.{Policy}
use Rattle.policy.specs.declared.Rule.{Rule}
use Rattle.policy.specs.declared.Action.{Action}
use Rattle.policy.specs.declared.Decisions.{Decisions}
use Rattle.policy.specs.declared.Kind.TheVariants.{Obligation}
use Rattle.probing.specs.declared.change.Change.{Change}
use Rattle.probing.specs.declared.change.Change.TheVariants.{TooManyDecisions, TooManyActions, TooManyRules, LevelTooHigh, Weightless}
use Rattle.probing.specs.declared.change.Change.TheVariants.{DoesAll, DoesItself, Head, NineIfs, Falling, OwnUnless, LastLevel, Unused}

-- a list of two decisions, of which so many count
abbrev pub two : ℕ → ℕ → ℕ → Decisions
two count first second = record { count = count; at = first ∷ second ∷ 7 ∷ 7 ∷ 7 ∷ 7 ∷ 7 ∷ 7 ∷ [] }

-- ---- other entries past the counts, where there is room for them
-- the n entries with another last one, where the count leaves room for it
unfoldable pub with_last : {A : Type 0} → ℕ → ℕ → A → List A → List A
with_last n count other entries = cond (ltb count n) (slice_set entries (n - 1) other) entries

unfoldable pub unused_list_of : Decisions → Decisions
unused_list_of l = record l { at = with_last 8 l.count 7 l.at }

unfoldable pub unused_rule_of : Rule → Rule
unused_rule_of r = record r { ifs = unused_list_of r.ifs; unless = unused_list_of r.unless }

abbrev pub seven_action : Action
seven_action = record { kind = Obligation; weight = 7; also = 7 }

abbrev pub sevens : Decisions
sevens = record { count = 8; at = 7 ∷ 7 ∷ 7 ∷ 7 ∷ 7 ∷ 7 ∷ 7 ∷ 7 ∷ [] }

abbrev pub seven_rule : Rule
seven_rule = record { head = 7; needs = 7; ifs = sevens; unless = sevens }

module _ (p : Policy) where
  abbrev pub unused_levels : List ℕ
  unused_levels = with_last 128 p.decisions 9 p.level

  abbrev pub unused_actions : List Action
  unused_actions = with_last 16 p.actions seven_action p.action

  abbrev pub unused_rules : List Rule
  unused_rules = with_last 256 p.rules seven_rule (slice_set p.rule 0 (unused_rule_of (rule_of p 0)))

  unfoldable pub unused_of : Policy
  unused_of = record p { level = unused_levels; action = unused_actions; rule = unused_rules }

  -- ---- each change, where the policy has the entry
  abbrev pub with_action : Action → Policy
  with_action a = record p { action = slice_set p.action 0 a }

  abbrev pub with_rule : Rule → Policy
  with_rule r = record p { rule = slice_set p.rule 0 r }

  abbrev pub first_action : Action
  first_action = get_or p.action 0 no_action

  abbrev pub first_rule : Rule
  first_rule = rule_of p 0

  abbrev pub changed : Change → Policy
  changed TooManyDecisions = record p { decisions = 129 }
  changed TooManyActions = record p { actions = 17 }
  changed TooManyRules = record p { rules = 257 }
  changed LevelTooHigh = record p { level = slice_set p.level 0 16 }
  changed Weightless = with_action (record first_action { weight = 0 })
  changed DoesAll = with_action (record first_action { also = 65535 })
  changed DoesItself = with_action (record first_action { also = 1 })
  changed Head = with_rule (record first_rule { head = p.decisions })
  changed NineIfs = with_rule (record first_rule { ifs = record first_rule.ifs { count = 9 } })
  changed Falling = with_rule (record first_rule { ifs = two 2 1 0 })
  changed OwnUnless = with_rule (record first_rule { unless = two 1 first_rule.head 0 })
  changed LastLevel = record p { level = slice_set p.level 127 9 }
  changed Unused = unused_of

  abbrev pub has_room : Change → Bool
  has_room Weightless = leb 1 p.actions
  has_room DoesAll = leb 1 p.actions
  has_room DoesItself = leb 1 p.actions
  has_room Head = leb 1 p.rules
  has_room NineIfs = leb 1 p.rules
  has_room OwnUnless = leb 1 p.rules
  has_room Falling = leb 1 p.rules && leb 2 p.decisions
  has_room LastLevel = ltb p.decisions 128
  has_room _ = true

  -- the changed policy, or none where it has no entry to change
  abbrev pub change_of : Change → Option Policy
  change_of change = cond (has_room change) (Some (changed change)) None
