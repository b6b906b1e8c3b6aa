-- The words of the sets that enable each rule, and then the levels.
use Rattle.std.proofs.Common.{refl, sym, ◌∙◌}
use Rattle.policy.specs.Laws.{accepted_range}
use Rattle.words.specs.Laws.Worked.{enabling_given, none_worked, given_worked}
use Rattle.words.proofs.plan.Plan.worked.Goals as goal

pub returns-then-sets-eq0 : goal.returns-then-sets-eq0
returns-then-sets-eq0 c =
    none_worked _ _ c.args.self.now.accepted _ c.args.w.within _ (sym c.offered-sets.ensures ∙ c.if-sets-eq0.true)

pub invariant_of-ranged : goal.invariant_of-ranged
invariant_of-ranged c = record { in_range = accepted_range _ _ c.args.self.now.accepted }

pub returns : goal.returns
returns c =
    let self = c.args.self.now in
    given_worked _ _ self.accepted _ c.args.w.within c.offered-sets.ensures (c.levels.ensures _ _ _ self.accepted
    (enabling_given _ _ self.accepted _ c.args.w.within self.planned.ordered self.planned.based self.planned.led c.fours-fours.ensures
    refl c.offered-sets.ensures c.enabling-enabled.ensures.tabled))
