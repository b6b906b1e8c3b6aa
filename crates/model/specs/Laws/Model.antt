-- The decisions that have a derivation are the stratified model of the world, and the only one.
use Rattle.std.specs.Prelude.{ℕ, zero, suc, ◌<◌, ◌≤◌, false, List, ◌↔◌, ◌≡◌, get_or}
use Rattle.std.proofs.Common.{⊎_elim, eq-or-lt_of_le, le_refl, le_of_eq, arith}
use Rattle.std.proofs.Math.ListN.{get_or-eq_default}
use Rattle.base.specs.Laws.Tests.{untrue, last_or_below}
use Rattle.policy.specs.declared.Policy.{Policy}
use Rattle.policy.specs.declared.Query.{Query}
use Rattle.policy.specs.Questions.{Accepted}
use Rattle.policy.specs.Record.{head_of, level_of, with_levels}
use Rattle.model.specs.Derivation.{Applies, Derivable}
use Rattle.model.specs.Fire.{State, up_to}
use Rattle.model.specs.Laws.Marks.{holds}
use Rattle.model.specs.Model.{Model, IsModel}
use Rattle.model.specs.Laws.Strata.{Stratified, stratified}
use Rattle.model.specs.Laws.Steps.{applies_too}
use Rattle.model.specs.Laws.Derived.{unfolds, by_rules}
use Rattle.model.specs.Laws.Invariant.{Good, lower_held}
use Rattle.model.specs.Laws.Levels.{good_up_to}

-- levels play no part in whether a rule applies
levels_aside : {p : Policy} {f : List ℕ} {w : ℕ} {X M : ℕ → Type 0} {k : ℕ} → Applies p w X M k → Applies (with_levels p f) w X M k
levels_aside a = record { exists = a.exists; enabled = a.enabled; ifs = a.ifs; unless = a.unless }

module _ (p : Policy) (w : ℕ) (s : Stratified p) where
  -- the decision 128, which no rule gives, is wanted in vain: so every level is worked to its end
  whole : State
  whole = up_to p w 128 16

  good : Good p w 128 16 whole
  unfolding whole
  good = good_up_to p w 128 s 16

  in_vain : holds whole 128 ≡ false
  in_vain = get_or-eq_default whole.held false {n = 128} (omega (arith, good.size))

  -- with any levels f that fit the rules, the decisions that have a derivation by p's own are the stratified model
  module _ (f : List ℕ) (fit : Stratified (with_levels p f)) where
    -- the head of every rule that applies has a derivation
    derivable_closed : (k : ℕ) → Applies (with_levels p f) w (Derivable p w) (Derivable p w) k → Derivable p w (head_of p k)
    derivable_closed k a = good.sound (head_of p k) (good.closed in_vain k a.exists (s.levels k a.exists) (record {
      enabled = a.enabled;
      ifs = λ d m. lower_held p w 128 s 16 whole good in_vain d
          (omega (arith, s.ifs k d a.exists m, s.levels k a.exists)) (a.ifs d m);
      unless = λ d m. untrue (holds whole d) λ h. a.unless d m (good.sound d h);
    }))

    -- and is in each set that the rules of a level ask for, unless its own level is higher
    module _ (n : ℕ) (X : ℕ → Type 0) (agrees : (d : ℕ) → get_or f d 0 < n → X d ↔ Derivable p w d)
        (closed : (k : ℕ) → get_or f (head_of p k) 0 ≡ n → Applies (with_levels p f) w X (Derivable p w) k → X (head_of p k)) where
      abbrev In : ℕ → Type 0
      In d = (get_or f d 0 ≤ n → X d) × Derivable p w d

      head_in : (k : ℕ) → Applies p w In (Derivable p w) k → In (head_of p k)
      head_in k a = (
        λ h. ⊎_elim
            (λ (e : get_or f (head_of p k) 0 ≡ n). closed k e (applies_too (with_levels p f) w (levels_aside a)
            (λ d m x. x.0 (omega (arith, fit.ifs k d a.exists m))) (λ d m x. x)))
            (λ (l : get_or f (head_of p k) 0 < n). (agrees (head_of p k) l).1 derived) (eq-or-lt_of_le h),
        derived,
      )
        where
          derived : Derivable p w (head_of p k)
          derived = derivable_closed k (applies_too (with_levels p f) w (levels_aside a) (λ d m x. x.1) (λ d m x. x))

      derivable_least : (d : ℕ) → get_or f d 0 ≡ n → Derivable p w d → X d
      derivable_least d e t = let (ks, v) = (unfolds p w s d).0 t in (by_rules v In (λ k m. head_in k)).0 (le_of_eq e)

    derivable_model : Model (with_levels p f) w (Derivable p w)
    derivable_model = record { closed = derivable_closed; least = derivable_least }

  -- a model is closed, at a level, under the rules that apply by another one that agrees with it at lower levels
  closed_by : (M N : ℕ → Type 0) → Model p w N → (n : ℕ) → ((d : ℕ) → level_of p d < n → M d ↔ N d)
      → (k : ℕ) → level_of p (head_of p k) ≡ n → Applies p w N M k → N (head_of p k)
  closed_by M N model n agree k e a = model.closed k
      (applies_too p w a (λ d m x. x) (λ d m. (agree d (omega (arith, s.unless k d a.exists m))).1))

  -- two models that agree below a level agree at it
  agree_next : (M N : ℕ → Type 0) → Model p w M → Model p w N → (n : ℕ) → ((d : ℕ) → level_of p d < n → M d ↔ N d)
      → (d : ℕ) → level_of p d < suc n → M d ↔ N d
  agree_next M N m o n lower d h = ⊎_elim {C = M d ↔ N d}
      (λ (e : level_of p d ≡ n). (m.least n N back (closed_by M N o n lower) d e, o.least n M lower (closed_by N M m n back) d e))
      (lower d) (last_or_below h)
    where
      back : (c : ℕ) → level_of p c < n → N c ↔ M c
      back c l = ((lower c l).1, (lower c l).0)

  agree : (M N : ℕ → Type 0) → Model p w M → Model p w N → (n d : ℕ) → level_of p d < n → M d ↔ N d
  agree M N m o zero d h = absurd (omega arith)
  agree M N m o (suc n) d h = agree_next M N m o n (agree M N m o n) d h

  -- so there is no other
  only_model : (M : ℕ → Type 0) → Model p w M → (d : ℕ) → M d ↔ Derivable p w d
  only_model M m d = agree M (Derivable p w) m (derivable_model p.level s) (suc (level_of p d)) d (le_refl (suc (level_of p d)))

pub is_model : (p : Policy) (q : Query) → Accepted p q → (w : ℕ) → IsModel p w
is_model p q ok w = let s = stratified p q ok in record { model = derivable_model p w s p.level s; only = only_model p w s }

-- the model does not depend on which levels are used, so they fit: with others, f, the same decisions have a derivation
pub same_model : (p : Policy) (f : List ℕ) (q : Query) → Accepted p q → Accepted (with_levels p f) q
    → (w d : ℕ) → Derivable p w d ↔ Derivable (with_levels p f) w d
same_model p f q ok with-f w d =
    let fit = stratified (with_levels p f) q with-f in
    only_model (with_levels p f) w fit (Derivable p w) (derivable_model p w (stratified p q ok) f fit) d
