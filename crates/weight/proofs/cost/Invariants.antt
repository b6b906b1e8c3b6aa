-- `cost` meets its contract: the weights of those of the first a actions that are in the set are summed.
use Rattle.weight.proofs.Weights.{Summed}
use Rattle.weight.proofs.cost.Given as goal

abbrev pub invariant-loop-a : goal.invariant-loop-a
invariant-loop-a l = Summed l.policy.action l.set l.policy.actions l.count l.sum l.a
