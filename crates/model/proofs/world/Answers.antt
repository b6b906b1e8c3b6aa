-- `world` meets its contract: after k rounds the world is followed k steps.
use native.Mathlib.Omega.{arith}
use mathlib.Core.Path.{sym, ◌∙◌, ap}
use borrow.Author.Rules.{rules}
use lib.Bits.{bit_or}
use Rattle.model.specs.World.{world_in}
use Rattle.model.proofs.Followed.{none_followed, more_followed, all_followed, ended}
use Rattle.model.proofs.world.Goals as goal

pub loop-init : goal.loop-init
loop-init c = none_followed c.join-world.ensures

pub returns-then-next-world : goal.returns-then-next-world
unfolding world_in
returns-then-next-world c =
    ended c.loop.invariant (sym c.if-next-world.true ∙ c.join-next.ensures ∙ ap (bit_or c.loop.world) c.alsoes.ensures)

pub loop-preserved : goal.loop-preserved
loop-preserved c =
    more_followed c.loop.invariant (omega arith) (c.join-next.ensures ∙ ap (bit_or c.loop.world) c.alsoes.ensures)

pub returns : goal.returns
unfolding world_in
returns c = all_followed c.loop.invariant (search rules)
