-- The scan computes `fired_of`: the invariants of its loops are in `Loops`.
use Rattle.std.proofs.Common.{◌<◌, sym, ◌∙◌, arith, eq-eqb, ne_eqb}
use Rattle.policy.specs.Record.{level_of}
use Rattle.scan.proofs.Listed.{rule_here, rule_less, rule_ready}
use Rattle.scan.proofs.Loops.{AtEnd, level_start, pass_start, rule_start, rule_room, firing, rule_idle, rule_on, pass_again, level_again}
use Rattle.scan.proofs.Loops.{end_level, end_stop, answer_held, answer_none}
use Rattle.scan.proofs.scan.Goals.{
  Left-scan,
  then-policy-head+then-can_fire+else-rule-want,
  else-policy-head,
  else-policy-head-via-then-policy-head+else-can_fire,
  else-policy-head-via-else-policy-head,
  else-scan-test,
  then-scan-test+then-rules-test+then-policy-head+then-can_fire+then-rule-want,
}
use Rattle.scan.proofs.scan.Goals as goal

pub scan-init : goal.scan-init
scan-init c = rw c.none-fired.ensures (level_start _ _ _ (omega (arith, c.requires.in_range.decisions)))

pub passes-init : goal.passes-init
passes-init c = pass_start c.scan.invariant

pub rules-init : goal.rules-init
rules-init c = rule_start c.passes.invariant

pub can_fire-requires : goal.can_fire-requires
can_fire-requires c = rule_ready _ c.rules-rule-items.ensures.value c.rules.k c.rules-test.true c.requires.in_range

pub push-requires : goal.push-requires
push-requires c =
    rule_room (firing c.rules-rule-items.ensures.value c.rules-test.true c.requires.in_range c.rules.invariant
    c.if-policy-head.true c.can_fire.ensures c.if-can_fire.true)

pub rules-preserved : goal.rules-preserved
rules-preserved c =
    let p = c.args.policy.now in
    let items = c.rules-rule-items.ensures.value in
    let here = rule_here p items c.rules.k c.rules-test.true in
    elim c.if-policy-head.branch [
      | then-policy-head+then-can_fire+else-rule-want w ↦ rw (w.held-is, w.fired-is, w.push.ensures, here)
          (rule_on (firing items c.rules-test.true c.requires.in_range c.rules.invariant
          w.if-policy-head.true w.can_fire.ensures w.if-can_fire.true) (rw here at w.if-rule-want.false))
      | else-policy-head w ↦ rw (w.held-is, w.fired-is)
          (rule_idle c.rules.invariant (rule_less p items c.rules.k c.rules-test.true) (rw (← here) (elim w.else-policy-head.branch [
            | else-policy-head-via-then-policy-head+else-can_fire v ↦
                rw (eq-eqb _ _ v.if-policy-head.true, sym v.can_fire.ensures ∙ v.if-can_fire.false)
            | else-policy-head-via-else-policy-head v ↦ rw (ne_eqb _ _ v.if-policy-head.false)
          ])))
    ]

pub passes-preserved : goal.passes-preserved
passes-preserved c =
    pass_again c.passes.invariant c.rules.invariant
    (omega (arith, c.requires.in_range.rules))
    c.if-fired-before.false

pub scan-preserved : goal.scan-preserved
scan-preserved c =
    level_again c.scan.invariant c.scan-test.true c.passes.invariant c.rules.invariant
    (omega (arith, c.requires.in_range.rules))
    c.if-fired-before.true

-- however the scan is left, its arrays stand for the last state
ended : (c : Left-scan) → AtEnd c.args.policy.now c.args.world c.args.want c.scan-test.held c.scan-test.fired.rules c.scan-test.fired.count
ended c =
    elim c.scan-test.branch [
      | else-scan-test w ↦ rw (w.held-is, w.fired-is) (end_level c.scan.invariant w.scan-test.false)
      | then-scan-test+then-rules-test+then-policy-head+then-can_fire+then-rule-want w ↦
          let here = rule_here c.args.policy.now w.rules-rule-items.ensures.value w.rules.k w.rules-test.true in
          rw (w.held-is, w.fired-is, w.push.ensures, here) (end_stop c.scan.invariant w.scan-test.true w.passes.invariant
          (firing w.rules-rule-items.ensures.value w.rules-test.true c.requires.in_range w.rules.invariant
          w.if-policy-head.true w.can_fire.ensures w.if-can_fire.true) (rw here at w.if-rule-want.true))
    ]

-- want has one of the 16 levels
few : (c : Left-scan) → level_of c.args.policy.now c.args.want < 16
few c = omega (arith, c.requires.in_range.level _ c.requires.want_lt_decisions)

pub returns-then-held-want : goal.returns-then-held-want
returns-then-held-want c =
    let left = (goal.at.returns-then-held-want c).Left-scan in
    let r = answer_held (ended left) (few left) c.if-held-want.true in
    record { count_value = r.0; rules_value = r.1 }

pub returns-else-held-want : goal.returns-else-held-want
returns-else-held-want c =
    let left = (goal.at.returns-else-held-want c).Left-scan in
    let r = answer_none (ended left) (few left) c.if-held-want.false in
    rw c.none.ensures (record { count_value = r.0; rules_value = r.1 })
