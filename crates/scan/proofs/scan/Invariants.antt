-- The scan computes `fired_of`: the invariants of its loops are in `Loops`.
use Rattle.std.proofs.Common.{◌-◌}
use Rattle.scan.proofs.Arrays.{state}
use Rattle.scan.proofs.Loops.{AtLevel, AtPass, AtRule}
use Rattle.scan.proofs.scan.Given as goal

abbrev pub invariant-rules : goal.invariant-rules
invariant-rules l =
    AtRule l.policy l.world l.want l.level (state l.initial.held l.initial.fired.rules l.initial.fired.count) l.initial.fired.count l.k
    l.held l.fired.rules l.fired.count

abbrev pub invariant-passes : goal.invariant-passes
invariant-passes l =
    AtPass l.policy l.world l.want l.level (state l.initial.held l.initial.fired.rules l.initial.fired.count)
    l.held l.fired.rules l.fired.count

abbrev pub decreases-passes : goal.decreases-passes
decreases-passes l = 128 - l.fired.count

abbrev pub invariant-scan : goal.invariant-scan
invariant-scan l = AtLevel l.policy l.world l.want l.level l.held l.fired.rules l.fired.count
