-- `alsoes` meets its contract: the also masks of those of the first a actions that are in the set are joined.
use Rattle.std.proofs.Common.{rules, arith, sym, ap, ◌∙◌}
use Rattle.std.specs.Int.Bits.{bit_or}
use Rattle.policy.specs.declared.Action.{Action}
use Rattle.policy.specs.Record.{no_action}
use Rattle.policy.proofs.Arrays.{front_entry}
use Rattle.model.proofs.Gathered.{gathered_none, gathered_in, gathered_out, gathered_all}
use Rattle.model.proofs.alsoes.Goals.{then-has, else-has}
use Rattle.model.proofs.alsoes.Goals as goal

pub loop-a-init : goal.loop-a-init
loop-a-init c = gathered_none (omega arith)

pub loop-a-preserved : goal.loop-a-preserved
loop-a-preserved c =
    let p = c.args.policy.now in
    let here = front_entry _ p.actions p.action no_action c.loop-a.a c.actions-action-items.ensures.value (omega arith) in
    elim c.if-has.branch [
      | then-has w ↦
          gathered_in c.loop-a.invariant (omega arith) (sym c.has.ensures ∙ w.if-has.true)
          (w.also-is ∙ w.join-also.ensures ∙ ap (λ (a : Action). bit_or c.loop-a.also a.also) here)
      | else-has w ↦ gathered_out c.loop-a.invariant (omega arith) (sym c.has.ensures ∙ w.if-has.false) w.also-is
    ]

pub returns : goal.returns
returns c = gathered_all c.loop-a.invariant (search rules) (omega arith)
