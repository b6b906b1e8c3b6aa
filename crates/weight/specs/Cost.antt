-- The cost of a set of actions, and its bound.
use Rattle.std.specs.Prelude.{ℕ, zero, suc, ◌+◌, ◌*◌, ◌≤◌, cond, List, get_or}
use Rattle.mask.specs.Mask.{has}
use Rattle.policy.specs.declared.Policy.{Policy}
use Rattle.policy.specs.declared.Action.{Action}
use Rattle.policy.specs.Record.{no_action}

-- the weights of those of the first n actions that are in s
unfoldable pub weighed : List Action → ℕ → ℕ → ℕ
weighed action s zero = 0
weighed action s (suc n) = weighed action s n + cond (has s n) (get_or action n no_action).weight 0

-- document 02's bound of the sum over n actions, of which there are at most 16: 65,535 for each
pub record Bounded (n sum : ℕ) : Type 0 where
  pub each : sum ≤ n * 65535
  pub all : sum ≤ 1048560

-- the cost of the set s: not of its world
unfoldable pub cost_of : Policy → ℕ → ℕ
cost_of p s = weighed p.action s p.actions
