-- The loop joins the sets of each action that leads to b.
use mathlib.Core.Path.{sym, ◌∙◌, ap}
use native.Mathlib.Omega.{arith}
use lib.Bits.{bit_or}
use Rattle.columns.specs.Sets.{gathered}
use Rattle.columns.proofs.Picking.{cond_yes, cond_no, picking_none, picking_in, picking_out, picking_all}
use Rattle.columns.proofs.reach.Reach.world_of.Goals.{then-has, else-has}
use Rattle.columns.proofs.reach.Reach.world_of.Goals.{then-has-2, else-has-2}
use Rattle.columns.proofs.reach.Reach.world_of.Goals as goal

pub loop-a-init : goal.loop-a-init
loop-a-init c =
    elim c.if-has.branch [
      | then-has w ↦ picking_none (w.word-is ∙ cond_yes _ (sym c.has.ensures ∙ w.if-has.true))
      | else-has w ↦ picking_none (w.word-is ∙ cond_no _ (sym c.has.ensures ∙ w.if-has.false))
    ]

pub loop-a-preserved : goal.loop-a-preserved
loop-a-preserved c =
    elim c.if-has-2.branch [
      | then-has-2 w ↦ picking_in c.loop-a.invariant (omega arith) (sym c.has-in-loop-a.ensures ∙ w.if-has-2.true) (w.word-is ∙ ap (bit_or c.loop-a.word) w.column-word.ensures)
      | else-has-2 w ↦ picking_out c.loop-a.invariant (omega arith) (sym c.has-in-loop-a.ensures ∙ w.if-has-2.false) w.word-is
    ]

pub returns : goal.returns
unfolding gathered
returns c = picking_all c.loop-a.invariant (omega (arith, c.loop-a-test.false))
