-- The loop's invariant: no rule of an earlier place asks for a decision before the place noted for it.
use Rattle.std.proofs.Common.{ℕ, ◌≤◌, ◌<◌, get_or}
use mathlib.Core.List.{Memᴰ}
use Rattle.policy.specs.Record.{ifs_of}
use Rattle.order.proofs.ranged.Ranged.noted.Given as goal

abbrev pub invariant-loop-j : goal.invariant-loop-j
invariant-loop-j l = (i d : ℕ) → i < l.j → Memᴰ d (ifs_of l.self.policy.now (get_or l.order i 0)) → get_or l.uses d 0 ≤ i
