-- `policy` meets its contract: after the last turn it holds the rules of all decisions.
use Rattle.std.proofs.Common.{◌≡◌, ◌-◌, ℕ, subst, arith}
use Rattle.threshold.specs.AtLeast.{rows, at_least}
use Rattle.threshold.proofs.Counts.{there}
use Rattle.threshold.proofs.Filling.{holding, none_yet, room, row_starts, row_ends, turned}
use Rattle.threshold.proofs.policy.Goals as goal

pub loop-i-init : goal.loop-i-init
loop-i-init c = none_yet c.plain.ensures c.zero_rule.ensures

pub loop-j-init : goal.loop-j-init
loop-j-init c = (row_starts _ c.loop-i.invariant, omega arith)

pub add_rules-requires : goal.add_rules-requires
add_rules-requires c =
    room _ _ (there (omega arith) c.loop-j.invariant.1 (omega arith) c.decisions_about-j-end.ensures) c.loop-j.invariant.0

pub loop-j-preserved : goal.loop-j-preserved
loop-j-preserved c = (
  turned _ _ (there (omega arith) c.loop-j.invariant.1 (omega arith) c.decisions_about-j-end.ensures) c.loop-j.invariant.0
      c.add_rules.ensures,
  omega arith,
)

pub loop-i-preserved : goal.loop-i-preserved
loop-i-preserved c = row_ends _ _ (omega arith) (omega (arith, c.decisions_about-j-end.ensures)) c.loop-j.invariant.0

pub returns : goal.returns
unfolding at_least holding
returns c =
    let all : c.loop-i.i - 1 ≡ 16 = omega arith in
    subst (λ (n : ℕ). c.loop-i.policy ≡ holding (rows n)) all c.loop-i.invariant
