-- `decision::decisions_to` meets its contract: at most 8 decisions are counted with each turn, which a byte has room for.
use Rattle.std.proofs.Common.{refl, arith}
use Rattle.threshold.specs.AtLeast.{decisions_to}
use Rattle.threshold.proofs.Counts.{decisions_few, decisions_more}
use Rattle.threshold.proofs.decision.decisions_to.Goals as goal

pub loop-k-init : goal.loop-k-init
unfolding decisions_to
loop-k-init c = refl

pub overflow_add-n : goal.overflow_add-n
overflow_add-n c = omega (arith, c.decisions_about-n.ensures, decisions_few c.loop-k.k)

pub loop-k-preserved : goal.loop-k-preserved
loop-k-preserved c = omega (arith, c.decisions_about-n.ensures, decisions_more c.loop-k.k)
