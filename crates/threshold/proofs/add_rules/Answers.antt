-- `add_rules` meets its contract.
use Rattle.std.proofs.Common.{◌∙◌, ap, arith}
use Rattle.threshold.specs.AtLeast.{with_rule}
use Rattle.threshold.proofs.Filling.{two_put, one_put}
use Rattle.threshold.proofs.add_rules.Goals.{then-decision, else-decision}
use Rattle.threshold.proofs.add_rules.Goals as goal

pub returns : goal.returns
returns c = elim c.if-decision.branch [
  | then-decision w ↦
      two_put _ _ _ w.if-decision.true w.without.ensures (w.policy-is ∙ w.add.ensures) c.having.ensures c.add-2.ensures
  | else-decision w ↦
      one_put _ _ _ (omega arith) c.having.ensures (c.add-2.ensures ∙ ap (λ p. with_rule p c.having.result) w.policy-is)
]
