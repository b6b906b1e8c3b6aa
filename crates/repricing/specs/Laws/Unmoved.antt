-- Weights play no part in what clears: with other actions that have the same also masks the same sets do.
use Prim.Native.Nat.{ℕ, zero, suc}
use Rattle.std.specs.Prelude.{List, ◌≡◌, length, get_or}
use Rattle.std.proofs.Math.Path.{refl}
use Rattle.std.proofs.Common.{ap, ◌∙◌}
use Rattle.std.specs.Int.Bits.{bit_or}
use Rattle.std.proofs.Math.Dec.{eqb}
use Rattle.base.specs.Laws.Tests.{choice}
use Rattle.policy.specs.declared.Policy.{Policy}
use Rattle.policy.specs.declared.Query.{Query}
use Rattle.policy.specs.declared.Action.{Action}
use Rattle.policy.specs.Record.{no_action, with_entries}
use Rattle.model.specs.World.{alsoes, followed, world_in, world_of}
use Rattle.model.specs.Fire.{State, is_held, fires, tried, pass, passes, up_to, fired_of}
use Rattle.model.specs.Clears.{fired_for, enough, clears}

-- the policy with these actions in place of its own
abbrev pub with_actions : Policy → List Action → Policy
with_actions p l = with_entries p p.level l p.rule

-- the rules fired in a world, whatever the actions are
module _ (p : Policy) (l : List Action) (w want : ℕ) where
  tried_with : (level : ℕ) (st : State) (k : ℕ) → tried (with_actions p l) w want level st k ≡ tried p w want level st k
  unfolding tried fires
  tried_with level st k = refl

  pass_with : (level n : ℕ) (st : State) → pass (with_actions p l) w want level n st ≡ pass p w want level n st
  unfolding pass
  pass_with level zero st = refl
  pass_with level (suc n) st = rw (pass_with level n st) (tried_with level (pass p w want level n st) n)

  passes_with : (level fuel : ℕ) (st : State) → passes (with_actions p l) w want level fuel st ≡ passes p w want level fuel st
  unfolding passes
  passes_with level zero st = refl
  passes_with level (suc fuel) st =
      let next = pass_with level p.rules st in
      choice (ap (λ (x : State). eqb (length x.fired) (length st.fired)) next) next
      (ap (passes (with_actions p l) w want level fuel) next ∙ passes_with level fuel (pass p w want level p.rules st))

  up_to_with : (n : ℕ) → up_to (with_actions p l) w want n ≡ up_to p w want n
  unfolding up_to
  up_to_with zero = refl
  up_to_with (suc n) = rw (up_to_with n) (passes_with n 129 (up_to p w want n))

  fired_with : fired_of (with_actions p l) w want ≡ fired_of p w want
  unfolding fired_of
  fired_with = let end = up_to_with 16 in
      choice (ap (λ (st : State). is_held st.held want) end) (ap (λ (st : State). st.fired) end) refl

-- the worlds, with the same also masks
module _ (p : Policy) (l : List Action) (also : (b : ℕ) → (get_or l b no_action).also ≡ (get_or p.action b no_action).also) where
  alsoes_with : (n m : ℕ) → alsoes l n m ≡ alsoes p.action n m
  unfolding alsoes
  alsoes_with zero m = refl
  alsoes_with (suc n) m = rw (alsoes_with n m, also n)

  followed_with : (n m k : ℕ) → followed l n m k ≡ followed p.action n m k
  unfolding followed
  followed_with n m zero = refl
  followed_with n m (suc k) = rw (followed_with n m k, alsoes_with n (followed p.action n m k))

  world_with : (done s : ℕ) → world_of (with_actions p l) done s ≡ world_of p done s
  unfolding world_of world_in
  world_with done s = followed_with p.actions (bit_or done s) p.actions

  -- and so what clears
  pub clears_with : (q : Query) (s : ℕ) → clears (with_actions p l) q s ≡ clears p q s
  unfolding clears enough fired_for
  clears_with q s = rw (world_with q.done s, fired_with p l (world_of p q.done s) q.want)
