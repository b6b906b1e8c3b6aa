-- Two policies are comparable: equal below their counts but for at most one weight. What that means, and the test of it.
use Rattle.std.specs.Prelude.{ℕ, Bool, ◌&&◌, not, List, ◌≡◌, eqb, leb, get_or, set}
use Rattle.std.specs.List.{count_by, zip}
use Rattle.std.specs.Cmp.Lexicographic.{pointwise}
use denote.Enum.Bare.{sameb}
use Rattle.policy.specs.contracts.Kind.{the_type}
use Rattle.policy.specs.declared.Policy.{Policy}
use Rattle.policy.specs.declared.Action.{Action}
use Rattle.policy.specs.declared.Kind.{Kind}
use Rattle.policy.specs.Record.{no_action, levels_of, actions_of, rules_of, with_entries, Agree}
use Rattle.policy.specs.Same.{same_rule}

-- the action with this weight in place of its own
abbrev pub weighing : Action → ℕ → Action
weighing x w = record { kind = x.kind; weight = w; also = x.also }

-- the actions, and the policy, with this weight in place of that of action a
abbrev pub reweighed_in : List Action → ℕ → ℕ → List Action
reweighed_in l a w = set l a (weighing (get_or l a no_action) w)

abbrev pub reweighed : Policy → ℕ → ℕ → Policy
reweighed p a w = with_entries p p.level (reweighed_in p.action a w) p.rule

-- with some weight in place of that of some action, which may be its own, the first policy agrees with the second below the counts
abbrev pub Comparable : Policy → Policy → Type 0
Comparable p p' = (a : ℕ) × (w : ℕ) × Agree (reweighed p a w) p'

-- ---- how it is computed, which need not be believed: `comparable_iff` in Laws says that the test passes just then

-- the parts of it: with some weight in place of that of some action a list of actions is the other, and the counts are the same
abbrev pub OneWeight : List Action → List Action → Type 0
OneWeight l m = (a : ℕ) × (w : ℕ) × (reweighed_in l a w ≡ m)

pub record Counts (p p' : Policy) : Type 0 where
  pub decisions : p.decisions ≡ p'.decisions
  pub actions : p.actions ≡ p'.actions
  pub rules : p.rules ≡ p'.rules

-- `==` on kinds
abbrev pub same_kind : Kind → Kind → Bool
same_kind = sameb the_type

-- the same action but for its weight
unfoldable pub same_but_weight : Action → Action → Bool
same_but_weight x y = same_kind x.kind y.kind && eqb x.also y.also

abbrev pub weights_differ : Action × Action → Bool
weights_differ p = not (eqb p.0.weight p.1.weight)

-- how many weights differ, place by place
abbrev pub changes : List Action → List Action → ℕ
changes l m = count_by weights_differ (zip l m)

unfoldable pub same_counts : Policy → Policy → Bool
same_counts p p' = eqb p.decisions p'.decisions && eqb p.actions p'.actions && eqb p.rules p'.rules

-- the actions are the same but for at most one weight
unfoldable pub same_actions : List Action → List Action → Bool
same_actions l m = pointwise same_but_weight l m && leb (changes l m) 1

unfoldable pub comparable : Policy → Policy → Bool
comparable p p' =
    same_counts p p' && pointwise eqb (levels_of p) (levels_of p')
    && pointwise same_rule (rules_of p) (rules_of p') && same_actions (actions_of p) (actions_of p')
