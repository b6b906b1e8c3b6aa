-- Each part is found by its own call.
use Rattle.policy.specs.Laws.{accepted_range}
use Rattle.words.proofs.plan.Plan.new.Goals as goal

pub invariant_of-ranged : goal.invariant_of-ranged
invariant_of-ranged c = record { in_range = accepted_range _ _ c.requires }
