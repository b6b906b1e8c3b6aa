-- The loop keeps the sets of each action of the set.
use mathlib.Core.Path.{refl, sym, ◌∙◌, ap}
use native.Mathlib.Omega.{arith}
use lib.Bits.{bit_and}
use Rattle.columns.specs.Laws.Holding.{holding_is}
use Rattle.columns.proofs.Picking.{picking_none, picking_in, picking_out, picking_all}
use Rattle.columns.proofs.holding.Goals.{then-has, else-has}
use Rattle.columns.proofs.holding.Goals as goal

pub loop-a-preserved : goal.loop-a-preserved
loop-a-preserved c =
    elim c.if-has.branch [
      | then-has w ↦ picking_in c.loop-a.invariant (omega arith) (sym c.has.ensures ∙ w.if-has.true) (w.sets-is ∙ ap (bit_and c.loop-a.sets) w.column-sets.ensures)
      | else-has w ↦ picking_out c.loop-a.invariant (omega arith) (sym c.has.ensures ∙ w.if-has.false) w.sets-is
    ]

pub returns : goal.returns
returns c = picking_all c.loop-a.invariant (omega (arith, c.loop-a-test.false)) ∙ holding_is _ _ c.ranges.set.fits

pub loop-a-init : goal.loop-a-init
loop-a-init c = picking_none refl
