-- The sums that the cost of a set goes through, action after action, are bounded: document 02's F-4.
use Rattle.std.specs.Prelude.{ℕ, zero, suc, ◌+◌, ◌≤◌, ◌<◌, Bool, true, false, cond, List, get_or}
use Rattle.std.proofs.Common.{zero-le, add-one, arith}
use Rattle.mask.specs.Mask.{has}
use Rattle.policy.specs.declared.Policy.{Policy}
use Rattle.policy.specs.declared.Query.{Query}
use Rattle.policy.specs.declared.Action.{Action}
use Rattle.policy.specs.Record.{no_action}
use Rattle.policy.specs.Questions.{Accepted}
use Rattle.policy.specs.Laws.{accepted_range}
use Rattle.weight.specs.Cost.{weighed, Bounded}

-- one weight more
pub bounded_next : {n sum w : ℕ} → Bounded n sum → n < 16 → w ≤ 65535 → Bounded (n + 1) (sum + w)
bounded_next g few light = record { each = omega arith; all = omega arith }

-- the partial sums of at most 16 actions, each of which weighs at most 65,535
pub sums_bounded : (action : List Action) (s n : ℕ) → n ≤ 16 → ((a : ℕ) → a < n → (get_or action a no_action).weight ≤ 65535)
    → Bounded n (weighed action s n)
unfolding weighed
sums_bounded action s zero few light = record { each = zero-le; all = zero-le }
sums_bounded action s (suc n) few light =
    let below = sums_bounded action s n (omega arith) (λ a l. light a (omega arith)) in
    rw add-one at (bounded_next below (omega arith) (added (has s n)))
  where
    added : (b : Bool) → cond b (get_or action n no_action).weight 0 ≤ 65535
    added true = light n (omega arith)
    added false = zero-le

-- for every accepted policy, every set and every number of actions summed so far
pub partial_sums : (p : Policy) (q : Query) → Accepted p q → (s n : ℕ) → n ≤ p.actions → Bounded n (weighed p.action s n)
partial_sums p q ok s n few =
    let range = accepted_range p q ok in
    sums_bounded p.action s n (omega (arith, range.actions)) (λ a l. range.heavy a (omega arith))
