-- The loop keeps the sets of each action of the mask.
use mathlib.Core.Path.{refl, sym, ◌∙◌}
use native.Mathlib.Omega.{arith}
use Rattle.columns.specs.Sets.{four_of}
use Rattle.columns.proofs.Picking.{picking_none, picking_in, picking_out, picking_all}
use Rattle.columns.proofs.reach.four.Goals.{then-has, else-has}
use Rattle.columns.proofs.reach.four.Goals as goal

pub loop-b-preserved : goal.loop-b-preserved
loop-b-preserved c =
    elim c.if-has.branch [
      | then-has w ↦ picking_in c.loop-b.invariant (omega arith) (sym c.has.ensures ∙ w.if-has.true) w.word-is
      | else-has w ↦ picking_out c.loop-b.invariant (omega arith) (sym c.has.ensures ∙ w.if-has.false) w.word-is
    ]

pub returns : goal.returns
unfolding four_of
returns c = picking_all c.loop-b.invariant (omega (arith, c.loop-b-test.false))

pub loop-b-init : goal.loop-b-init
loop-b-init c = picking_none refl
