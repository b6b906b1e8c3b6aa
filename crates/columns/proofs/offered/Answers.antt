-- The loop takes the sets of each shut action away.
use mathlib.Core.Path.{refl, sym, ◌∙◌, ap}
use native.Mathlib.Omega.{arith}
use Rattle.mask.specs.Laws.Packed.{minus}
use Rattle.columns.specs.Laws.Offered.{offered_is}
use Rattle.columns.proofs.Picking.{picking_none, picking_in, picking_out, picking_all}
use Rattle.columns.proofs.offered.Goals.{then-shut, else-shut}
use Rattle.columns.proofs.offered.Goals as goal

pub loop-a-init : goal.loop-a-init
loop-a-init c = picking_none refl

pub loop-a-preserved : goal.loop-a-preserved
loop-a-preserved c =
    elim c.if-shut.branch [
      | then-shut w ↦ picking_in c.loop-a.invariant (omega arith) (sym c.shut.ensures ∙ w.if-shut.true) (w.sets-is ∙ ap (minus c.loop-a.sets) w.column.ensures)
      | else-shut w ↦ picking_out c.loop-a.invariant (omega arith) (sym c.shut.ensures ∙ w.if-shut.false) w.sets-is
    ]

pub returns : goal.returns
returns c = picking_all c.loop-a.invariant (omega (arith, c.loop-a-test.false)) ∙ offered_is _ _ _ c.args.w.within
