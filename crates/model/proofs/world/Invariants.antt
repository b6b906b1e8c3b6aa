-- `world` meets its contract: after k rounds the world is followed k steps.
use Prim.Native.Nat.{◌-◌}
use lib.Bits.{bit_or}
use Rattle.model.proofs.Followed.{Following}
use Rattle.model.proofs.world.Given as goal

abbrev pub invariant-loop : goal.invariant-loop
invariant-loop l = Following l.policy.action (bit_or l.done l.offered) l.policy.actions l.world l.counter

abbrev pub decreases-loop : goal.decreases-loop
decreases-loop l = l.policy.actions - l.counter
