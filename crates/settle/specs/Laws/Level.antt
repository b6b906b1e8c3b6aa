-- One set: marks that are sound and complete below a level stay sound by each rule of the level, and are complete at it once
-- they are closed under its rules.
use Rattle.std.specs.Prelude.{ℕ, suc, ◌<◌, Bool, not, ◌≡◌, T}
use mathlib.Core.List.{Memᴰ}
use Rattle.std.proofs.Common.{⊎_elim, arith, T_not}
use Rattle.std.proofs.Math.Dec.{not_T}
use Rattle.base.specs.Laws.Tests.{last_or_below}
use Rattle.policy.specs.declared.Policy.{Policy}
use Rattle.policy.specs.declared.Query.{Query}
use Rattle.policy.specs.Questions.{Accepted}
use Rattle.policy.specs.Record.{rule_of, head_of, ifs_of, unless_of, level_of}
use Rattle.model.specs.World.{Enabled}
use Rattle.model.specs.Derivation.{Derivable}
use Rattle.model.specs.Laws.Strata.{stratified}
use Rattle.model.specs.Laws.Model.{is_model}
use Rattle.settle.specs.Right.{Sound, Complete}

module _ (p : Policy) (w : ℕ) where
  -- rule k of level n asks for no more than the marks give
  pub record Ready (n : ℕ) (held : ℕ → Bool) (k : ℕ) : Type 0 where
    pub exists : k < p.rules
    pub level : level_of p (head_of p k) ≡ n
    pub enabled : Enabled w (rule_of p k)
    pub ifs : (d : ℕ) → Memᴰ d (ifs_of p k) → T (held d)
    pub unless : (d : ℕ) → Memᴰ d (unless_of p k) → T (not (held d))

module _ (p : Policy) (q : Query) (ok : Accepted p q) (w : ℕ) where
  pub step : (n : ℕ) (held : ℕ → Bool) → Sound p w held → Complete p w n held → (k : ℕ) → Ready p w n held k → Derivable p w (head_of p k)
  step n held sound complete k r = (is_model p q ok w).model.closed k (record {
    exists = r.exists;
    enabled = r.enabled;
    ifs = λ d m. sound d (r.ifs d m);
    unless = λ d m t. T_not (held d) (r.unless d m)
        (complete d (omega (arith, (stratified p q ok).unless k d r.exists m, r.level)) t);
  })

  pub settled : (n : ℕ) (held : ℕ → Bool) → Sound p w held → Complete p w n held
      → ((k : ℕ) → Ready p w n held k → T (held (head_of p k))) → Complete p w (suc n) held
  settled n held sound complete closed d h t =
      ⊎_elim (λ (e : level_of p d ≡ n). (is_model p q ok w).model.least n (λ c. T (held c))
      (λ c l. (sound c, complete c l))
      (λ k e a. closed k (record {
        exists = a.exists;
        level = e;
        enabled = a.enabled;
        ifs = a.ifs;
        unless = λ c m. not_T (held c) (λ x. a.unless c m (sound c x));
      }))
      d e t)
      (λ (l : level_of p d < n). complete d l t) (last_or_below h)
