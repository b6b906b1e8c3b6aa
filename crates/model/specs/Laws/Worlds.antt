-- Which actions the world of a set holds.
use Prim.Native.Nat.{ℕ, zero, suc, ◌≤◌, ◌<◌}
use Rattle.std.specs.Prelude.{Bool, true, false, cond, ◌⊎◌, ◌↔◌, ◌≡◌}
use Rattle.std.proofs.Math.Logic.{inl, inr, ⊎_elim}
use Rattle.std.proofs.Math.Nat.{le_refl}
use Rattle.std.proofs.Common.{not-suc-le-zero, le_of_suc-le-suc}
use Rattle.std.specs.Int.Bits.{bit_or}
use Rattle.std.proofs.Math.Dec.{T}
use Rattle.base.specs.Laws.Tests.{or_left, or_right, or_cases, below_suc, last_or_below}
use Rattle.mask.specs.Mask.{has}
use Rattle.mask.specs.Laws.{has_or, has_none}
use Rattle.policy.specs.declared.Policy.{Policy}
use Rattle.policy.specs.declared.Query.{Query}
use Rattle.policy.specs.declared.Rule.{Rule}
use Rattle.policy.specs.Record.{also_of}
use Rattle.policy.specs.Questions.{Accepted}
use Rattle.model.specs.World.{alsoes, followed, world_in, world_of, Reached, start, follow, InWorld, Enabled}
use Rattle.model.specs.Laws.Chains.{steps, few_steps}

-- an action is in a join when it is in one of the two sets
join_iff : (a b i : ℕ) → T (has (bit_or a b) i) ↔ (T (has a i) ⊎ T (has b i))
join_iff a b i = (
  λ t. or_cases (has a i) (has b i) (rw has_or at t),
  λ t. rw has_or (⊎_elim (or_left (has a i) (has b i)) (or_right (has a i) (has b i)) t),
)

-- what is reached from a set is reached from a larger one
pub reached_more : {p : Policy} {A B : ℕ → Type 0} {i : ℕ} → ((a : ℕ) → A a → B a) → Reached p A i → Reached p B i
reached_more f (start {i} t) = start (f i t)
reached_more f (follow r l t) = follow (reached_more f r) l t

-- a mask that counts where a test passes
cond_at : (b : Bool) (m i : ℕ) → T (has (cond b m 0) i) → T b × T (has m i)
cond_at true m i t = (tt, t)
cond_at false m i t = absurd (has_none i t)

cond_make : (b : Bool) (m i : ℕ) → T b → T (has m i) → T (has (cond b m 0) i)
cond_make true m i s t = t
cond_make false m i s t = absurd s

module _ (p : Policy) (m i : ℕ) where
  -- an action of m below n has action i in its also mask
  abbrev Also : ℕ → Type 0
  Also n = (a : ℕ) × (a < n) × T (has m a) × T (has (also_of p a) i)

  alsoes_at : (n : ℕ) → T (has (alsoes p.action n m) i) → Also n
  unfolding alsoes
  alsoes_at zero t = absurd (has_none i t)
  alsoes_at (suc n) t = ⊎_elim {C = Also (suc n)}
      (λ (t : T (has (alsoes p.action n m) i)). let r = alsoes_at n t in (r.0, below_suc r.1, r.2, r.3))
      (λ (t : T (has (cond (has m n) (also_of p n) 0) i)). let r = cond_at (has m n) (also_of p n) i t in (n, le_refl (suc n), r.0, r.1))
      ((join_iff (alsoes p.action n m) (cond (has m n) (also_of p n) 0) i).0 t)

  alsoes_make : (n : ℕ) → Also n → T (has (alsoes p.action n m) i)
  unfolding alsoes
  alsoes_make zero (a, h, s, t) = absurd (not-suc-le-zero h)
  alsoes_make (suc n) (a, h, s, t) = (join_iff (alsoes p.action n m) (cond (has m n) (also_of p n) 0) i).1 (⊎_elim
      (λ (e : a ≡ n). inr (rw e at (cond_make (has m a) (also_of p a) i s t)))
      (λ (l : a < n). inl (alsoes_make n (a, l, s, t))) (last_or_below h))

-- a mask m with the actions of a set, followed k steps
module _ (p : Policy) {From : ℕ → Type 0} (m : ℕ) (is : (i : ℕ) → T (has m i) ↔ From i) where
  abbrev after : ℕ → ℕ
  after = followed p.action p.actions m

  abbrev more : ℕ → ℕ
  more k = alsoes p.action p.actions (after k)

  -- it holds actions that are reached from the set
  after_reached : (k i : ℕ) → T (has (after k) i) → Reached p From i
  unfolding followed
  after_reached zero i t = start ((is i).0 t)
  after_reached (suc k) i t = ⊎_elim {C = Reached p From i} (after_reached k i)
      (λ (t : T (has (more k) i)). let r = alsoes_at p (after k) i p.actions t in follow (after_reached k r.0 r.2) r.1 r.3)
      ((join_iff (after k) (more k) i).0 t)

  -- it keeps the set's own
  start_after : (k i : ℕ) → T (has m i) → T (has (after k) i)
  unfolding followed
  start_after zero i t = t
  start_after (suc k) i t = (join_iff (after k) (more k) i).1 (inl (start_after k i t))

  -- and holds all that are reached in k steps
  reached_after : {i : ℕ} (r : Reached p From i) (k : ℕ) → steps r ≤ k → T (has (after k) i)
  unfolding followed steps
  reached_after {i} (start t) k h = start_after k i ((is i).1 t)
  reached_after (follow r l t) zero h = absurd (not-suc-le-zero h)
  reached_after {i} (follow {a} r l t) (suc k) h = (join_iff (after k) (more k) i).1
      (inr (alsoes_make p (after k) i p.actions (a, l, reached_after r k (le_of_suc-le-suc h), t)))

module _ (p : Policy) (q : Query) (ok : Accepted p q) (done s : ℕ) where
  -- the world holds exactly the actions that are reached from what is done and s
  pub world_holds : (i : ℕ) → T (has (world_of p done s) i) ↔ InWorld p done s i
  unfolding world_of world_in
  world_holds i = let is = join_iff done s in (
    after_reached p (bit_or done s) is p.actions i,
    λ r. reached_after p (bit_or done s) is r p.actions (few_steps p q ok r),
  )

  -- so a rule is enabled in it exactly when each action of its needs is reached
  pub enabled_iff : (r : Rule) → Enabled (world_of p done s) r ↔ ((i : ℕ) → T (has r.needs i) → InWorld p done s i)
  enabled_iff r = (λ e i t. (world_holds i).0 (e i t), λ e i t. (world_holds i).1 (e i t))
