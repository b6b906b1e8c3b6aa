-- `cost` meets its contract: the weights of those of the first a actions that are in the set are summed.
use Rattle.std.proofs.Common.{rules, arith}
use Rattle.policy.proofs.Owned.{weights_owned}
use Rattle.weight.proofs.Weights.{summed_none, summed_bounded, summed_next, summed_all}
use Rattle.weight.specs.Cost.{cost_of}
use Rattle.weight.proofs.cost.Goals as goal

pub loop-a-init : goal.loop-a-init
loop-a-init c = summed_none c.actions.ensures.long

pub with_action-sum-requires-clause-bounded : goal.with_action-sum-requires-clause-bounded
with_action-sum-requires-clause-bounded c = summed_bounded c.loop-a.invariant (weights_owned c.args.policy.now.action _ c.type_inv.policy.1.1.1.1.0)

pub loop-a-preserved : goal.loop-a-preserved
loop-a-preserved c = summed_next c.loop-a.invariant (omega arith) c.with_action-sum.ensures.value

pub returns : goal.returns
unfolding cost_of
returns c = summed_all c.loop-a.invariant (search rules) c.loop-a-test.false
