-- The loop fills the places of the rules.
use Rattle.std.proofs.Common.{get_or}
use Rattle.base.specs.Laws.Tables.{Tabled}
use Rattle.policy.specs.Record.{rule_of}
use Rattle.columns.specs.Sets.{needed_of}
use Rattle.settle.specs.Right.{AreWords}
use Rattle.words.proofs.plan.Plan.enabling.Given as goal

abbrev pub invariant-loop-j : goal.invariant-loop-j
invariant-loop-j l =
    Tabled (λ i. needed_of l.fours (rule_of l.self.policy (get_or l.self.order.rules i 0)).needs l.sets) 256 l.enabled l.j
    × AreWords 256 l.enabled
