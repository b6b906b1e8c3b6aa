-- The test of comparable policies says what it means.
pub mod Paired
pub mod Reweighed
use Rattle.std.specs.Prelude.{map, ◌↔◌, ◌≡◌, T}
use Rattle.std.proofs.Common.{sym, ap, ◌∙◌}
use Rattle.base.specs.Laws.Tests.{and_make, parts}
use Rattle.policy.specs.declared.Policy.{Policy}
use Rattle.policy.specs.Record.{levels_of, actions_of, rules_of, cut_rule}
use Rattle.policy.specs.Same.{same_rule}
use Rattle.alike.specs.Comparable.{reweighed_in, Comparable, Counts, same_counts, comparable}
use Paired.{equal_iff, numbers_iff, rule_iff, paired_iff}
use Reweighed.{front, actions_iff}

pub counts_iff : (p p' : Policy) → T (same_counts p p') ↔ Counts p p'
unfolding same_counts
counts_iff p p' = (
  λ t. record {
    decisions = (equal_iff _ _).0 (search parts);
    actions = (equal_iff _ _).0 (search parts);
    rules = (equal_iff _ _).0 (search parts);
  },
  λ c.
      let decisions = (equal_iff p.decisions p'.decisions).1 c.decisions in
      let actions = (equal_iff p.actions p'.actions).1 c.actions in
      let rules = (equal_iff p.rules p'.rules).1 c.rules in
      search and_make depth 9,
)

pub comparable_iff : (p p' : Policy) → T (comparable p p') ↔ Comparable p p'
unfolding comparable
comparable_iff p p' = (
  λ t.
      let counts = (counts_iff p p').0 (search parts depth 9) in
      let level : levels_of p ≡ levels_of p' = (numbers_iff (levels_of p) (levels_of p')).0 (search parts depth 9) in
      let rule : map cut_rule (rules_of p) ≡ map cut_rule (rules_of p') =
      (paired_iff same_rule cut_rule rule_iff (rules_of p) (rules_of p')).0 (search parts depth 9) in
      let (a, w, same) = (actions_iff (actions_of p) (actions_of p')).0 (search parts depth 9) in
      let action = front p.actions p.action a w ∙ same in (
        a,
        w,
        λ i. record {
          decisions = counts.decisions i;
          actions = counts.actions i;
          rules = counts.rules i;
          level = level i;
          action = action i;
          rule = rule i;
        },
      ),
  λ c.
      let (a, w, agree) = c in
      let counts = (counts_iff p p').1 (record {
        decisions = ap (λ (r : Policy). r.decisions) agree;
        actions = ap (λ (r : Policy). r.actions) agree;
        rules = ap (λ (r : Policy). r.rules) agree;
      }) in
      let level = (numbers_iff (levels_of p) (levels_of p')).1 (ap (λ (r : Policy). r.level) agree) in
      let rule = (paired_iff same_rule cut_rule rule_iff (rules_of p) (rules_of p')).1 (ap (λ (r : Policy). r.rule) agree) in
      let same : reweighed_in (actions_of p) a w ≡ actions_of p' =
      sym (front p.actions p.action a w) ∙ ap (λ (r : Policy). r.action) agree in
      let action = (actions_iff (actions_of p) (actions_of p')).1 (a, w, same) in
      search and_make depth 9,
)
