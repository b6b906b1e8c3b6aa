-- `reader::entries::fill` meets its contract.
use Rattle.std.proofs.Common.{arith}
use Rattle.reader.proofs.Filling.{turns, stops, ends}
use Rattle.reader.proofs.entries.fill.Goals as goal

pub returns-in_err-place : goal.returns-in_err-place
returns-in_err-place g c = λ m k. stops m _ _ (c.loop-place.invariant m k) (omega arith) _ (k _ _ _ c.entry.ensures) _ _ _ c.in_err-place.was c.from_residual.ensures.1

pub loop-place-preserved : goal.loop-place-preserved
loop-place-preserved g c = λ m k. turns m _ _ (c.loop-place.invariant m k) (omega arith) _ (k _ _ _ c.entry.ensures) c.in_ok-place.was

pub returns : goal.returns
returns g c = λ m k. ends m _ _ (c.loop-place.invariant m k) (omega arith)
