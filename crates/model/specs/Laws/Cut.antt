-- Worlds and the rules fired depend on no entry past a count of the record.
use Prim.Native.Nat.{ℕ, zero, suc, ◌≤◌, ◌<◌}
use Rattle.std.specs.Prelude.{◌≡◌, T, length}
use Rattle.std.proofs.Math.Path.{refl}
use Rattle.std.proofs.Common.{ap, ◌∙◌, le_refl, arith}
use Rattle.std.specs.Int.Bits.{bit_or}
use Rattle.std.proofs.Math.Dec.{eqb}
use Rattle.base.specs.Laws.Tests.{choice}
use Rattle.policy.specs.declared.Policy.{Policy}
use Rattle.policy.specs.declared.Rule.{Rule}
use Rattle.policy.specs.Record.{rule_of, head_of, level_of, cut_rule, cut}
use Rattle.policy.specs.Questions.{in_range}
use Rattle.policy.specs.Laws.{in_range_lem}
use Rattle.policy.specs.Laws.Cut.{listed_cut, level_cut, also_cut, rule_cut, head_cut}
use Rattle.model.specs.World.{alsoes, followed, world_in, world_of}
use Rattle.model.specs.Fire.{Marks, State, can_fire, fire, fires, tried, pass, passes, up_to, fired_of}
use Rattle.model.specs.Laws.Marks.{holds}

-- a rule can fire where its cut can
can_fire_cut : (held : Marks) (w : ℕ) (r : Rule) → can_fire held w (cut_rule r) ≡ can_fire held w r
unfolding can_fire
can_fire_cut held w r = rw (listed_cut r.ifs, listed_cut r.unless)

-- the worlds
module _ (p : Policy) where
  alsoes_cut : (m n : ℕ) → n ≤ p.actions → alsoes (cut p).action n m ≡ alsoes p.action n m
  unfolding alsoes
  alsoes_cut m zero h = refl
  alsoes_cut m (suc n) h = rw (alsoes_cut m n (omega arith), also_cut p n h)

  followed_cut : (m k : ℕ) → followed (cut p).action p.actions m k ≡ followed p.action p.actions m k
  unfolding followed
  followed_cut m zero = refl
  followed_cut m (suc k) = rw (followed_cut m k, alsoes_cut (followed p.action p.actions m k) p.actions (le_refl _))

  pub world_cut : (done s : ℕ) → world_of (cut p) done s ≡ world_of p done s
  unfolding world_of world_in
  world_cut done s = followed_cut (bit_or done s) p.actions

-- the rules fired, where question 3 is answered yes: the head of each rule then has its level below the count
module _ (p : Policy) (t : T (in_range p)) (w want : ℕ) where
  head_level : (k : ℕ) → k < p.rules → level_of (cut p) (head_of (cut p) k) ≡ level_of p (head_of p k)
  head_level k h = rw (head_cut p k h) (level_cut p (head_of p k) ((in_range_lem p t).rule k h).head)

  fires_cut : (level : ℕ) (st : State) (k : ℕ) → k < p.rules → fires (cut p) w want level st k ≡ fires p w want level st k
  unfolding fires
  fires_cut level st k h = rw (head_level k h, rule_cut p k h, can_fire_cut st.held w (rule_of p k))

  fire_cut : (st : State) (k : ℕ) → k < p.rules → fire (cut p) st k ≡ fire p st k
  fire_cut st k h = rw (head_cut p k h)

  tried_cut : (level : ℕ) (st : State) (k : ℕ) → k < p.rules → tried (cut p) w want level st k ≡ tried p w want level st k
  unfolding tried
  tried_cut level st k h = choice (fires_cut level st k h) (fire_cut st k h) refl

  pass_cut : (level n : ℕ) → n ≤ p.rules → (st : State) → pass (cut p) w want level n st ≡ pass p w want level n st
  unfolding pass
  pass_cut level zero h st = refl
  pass_cut level (suc n) h st = rw (pass_cut level n (omega arith) st) (tried_cut level (pass p w want level n st) n h)

  passes_cut : (level fuel : ℕ) (st : State) → passes (cut p) w want level fuel st ≡ passes p w want level fuel st
  unfolding passes
  passes_cut level zero st = refl
  passes_cut level (suc fuel) st =
      let next = pass_cut level p.rules (le_refl p.rules) st in
      choice (ap (λ (x : State). eqb (length x.fired) (length st.fired)) next) next
      (ap (passes (cut p) w want level fuel) next ∙ passes_cut level fuel (pass p w want level p.rules st))

  up_to_cut : (n : ℕ) → up_to (cut p) w want n ≡ up_to p w want n
  unfolding up_to
  up_to_cut zero = refl
  up_to_cut (suc n) = rw (up_to_cut n) (passes_cut n 129 (up_to p w want n))

  pub fired_cut : fired_of (cut p) w want ≡ fired_of p w want
  unfolding fired_of
  fired_cut = let end = up_to_cut 16 in
      choice (ap (λ (st : State). holds st want) end) (ap (λ (st : State). st.fired) end) refl
