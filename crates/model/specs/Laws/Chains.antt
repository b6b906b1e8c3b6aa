-- Question 6 keeps chains of also masks short: an action in a mask weighs less, so no chain has more steps than there are actions.
use Rattle.std.specs.Prelude.{ℕ, suc, ◌+◌, ◌≤◌, ◌<◌}
use Rattle.std.proofs.Common.{lt_irrefl, arith, ltb→lt, lt→ltb}
use Rattle.std.proofs.Math.Dec.{ltb}
use Rattle.base.specs.Counted.{counted}
use Rattle.base.specs.Laws.Counted.{counted_most, counted_fewer}
use Rattle.mask.specs.Laws.{has→<}
use Rattle.policy.specs.declared.Policy.{Policy}
use Rattle.policy.specs.declared.Query.{Query}
use Rattle.policy.specs.Record.{also_of, weight_of}
use Rattle.policy.specs.Questions.{Accepted}
use Rattle.policy.specs.Laws.{accepted, accepted_range, weights_fit_lem}
use Rattle.model.specs.World.{Reached, start, follow}

-- the steps of the way by which an action is reached
unfoldable pub steps : {p : Policy} {From : ℕ → Type 0} {i : ℕ} → Reached p From i → ℕ
steps (start t) = 0
steps (follow r h t) = suc (steps r)

module _ (p : Policy) where
  -- how many actions weigh less than v
  abbrev lighter : ℕ → ℕ
  lighter v = counted (λ a. ltb (weight_of p a) v) p.actions

  -- fewer than weigh less than w, where an action weighs v and v is below w
  lighter_fewer : (b w : ℕ) → b < p.actions → weight_of p b < w → lighter (weight_of p b) < lighter w
  lighter_fewer b w h l = counted_fewer (λ a. ltb (weight_of p a) (weight_of p b)) (λ a. ltb (weight_of p a) w)
      (λ a t. lt→ltb (weight_of p a) w (omega (arith, ltb→lt (weight_of p a) (weight_of p b) t))) b p.actions h
      (λ t. lt_irrefl (weight_of p b) (ltb→lt (weight_of p b) (weight_of p b) t)) (lt→ltb (weight_of p b) w l)

-- whichever way an action is reached, it takes no more steps than there are actions
module _ (p : Policy) (q : Query) (ok : Accepted p q) {From : ℕ → Type 0} where
  -- each step goes to a lighter action
  go : {i : ℕ} (r : Reached p From i) → steps r + lighter p (weight_of p i) ≤ p.actions
  unfolding steps
  go {i} (start t) = omega (arith, counted_most (λ a. ltb (weight_of p a) (weight_of p i)) p.actions)
  go {i} (follow {a} r h t) =
      let below : i < p.actions = has→< (also_of p a) i p.actions t ((accepted_range p q ok).also a h) in
      let falls = weights_fit_lem p (accepted p q ok).weights a i h below t in
      omega (arith, go r, lighter_fewer p i (weight_of p a) below falls)

  pub few_steps : {i : ℕ} (r : Reached p From i) → steps r ≤ p.actions
  few_steps r = omega (arith, go r)
