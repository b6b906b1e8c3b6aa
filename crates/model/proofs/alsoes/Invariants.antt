-- `alsoes` meets its contract: the also masks of those of the first a actions that are in the set are joined.
use Rattle.model.proofs.Gathered.{Gathered}
use Rattle.model.proofs.alsoes.Given as goal

abbrev pub invariant-loop-a : goal.invariant-loop-a
invariant-loop-a l = Gathered l.policy.action l.set l.policy.actions l.a-end l.also l.a
