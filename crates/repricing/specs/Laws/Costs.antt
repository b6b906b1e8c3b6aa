-- The cost of each set rises by 0 to k where the weight of one action is raised by k.
use Prim.Native.Nat.{ℕ, zero, suc, ◌+◌, ◌≤◌}
use Rattle.std.specs.Prelude.{Bool, true, false, cond, List, [], ◌∷◌, ◌≡◌}
use Rattle.std.proofs.Math.Path.{refl, subst}
use Rattle.std.proofs.Common.{sym, le_refl}
use Rattle.std.proofs.Math.Decide.{ℕ_discrete}
use native.Mathlib.Omega.{arith}
use Rattle.mask.specs.Mask.{has}
use Rattle.policy.specs.declared.Policy.{Policy}
use Rattle.policy.specs.declared.Action.{Action}
use Rattle.weight.specs.Cost.{weighed, cost_of}
use Rattle.alike.specs.Comparable.{reweighed_in}
use Rattle.repricing.specs.Reprices.{raised, Rises}
use Rattle.repricing.specs.Laws.Reweighed.{weight_in, weight_other}

-- the actions with the weight of a raised by k
abbrev raised_in : List Action → ℕ → ℕ → List Action
raised_in l a k = reweighed_in l a (weight_in l a + k)

-- the weight of a rises; one that is not there weighs nothing
weight_rises : (l : List Action) (a k : ℕ) → Rises k (weight_in l a) (weight_in (raised_in l a k) a)
weight_rises [] a k = record { low = omega arith; high = omega arith }
weight_rises (x ∷ l) zero k = record { low = omega arith; high = omega arith }
weight_rises (x ∷ l) (suc a) k = weight_rises l a k

-- and so does what it adds to a cost
added_rises : {k m n : ℕ} (b : Bool) → Rises k m n → Rises k (cond b m 0) (cond b n 0)
added_rises true r = r
added_rises false r = record { low = omega arith; high = omega arith }

module _ (l : List Action) (a k s : ℕ) where
  -- the sum over actions before a stays
  weighed_before : (n : ℕ) → n ≤ a → weighed (raised_in l a k) s n ≡ weighed l s n
  unfolding weighed
  weighed_before zero h = refl
  weighed_before (suc n) h =
      let before : n ≤ a = omega arith in
      rw (weighed_before n before, weight_other l a (weight_in l a + k) n (λ e. omega arith))

  weighed_at : Rises k (weighed l s (suc a)) (weighed (raised_in l a k) s (suc a))
  unfolding weighed
  weighed_at =
      let before = weighed_before a (le_refl a) in
      let r = added_rises (has s a) (weight_rises l a k) in
      record { low = omega arith; high = omega arith }

  weighed_rises : (n : ℕ) → Rises k (weighed l s n) (weighed (raised_in l a k) s n)
  unfolding weighed
  weighed_rises zero = record { low = omega arith; high = omega arith }
  weighed_rises (suc n) = elim (ℕ_discrete n a) [
    | yes e ↦ subst (λ (m : ℕ). Rises k (weighed l s (suc m)) (weighed (raised_in l a k) s (suc m))) (sym e) weighed_at
    | no ne ↦
        let r = weighed_rises n in
        rw (weight_other l a (weight_in l a + k) n ne)
        (record { low = omega arith; high = omega arith })
  ]

pub cost_rises : (p : Policy) (a k s : ℕ) → Rises k (cost_of p s) (cost_of (raised p a k) s)
unfolding cost_of
cost_rises p a k s = weighed_rises p.action a k s p.actions
