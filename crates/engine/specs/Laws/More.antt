-- Where no rule has an unless entry, more actions do no harm.
use Rattle.std.specs.Prelude.{ℕ, ◌<◌, false, not, true, ◌≡◌, T, eqb, take, length, get_or}
use Rattle.std.proofs.Common.{inl, inr, ⊎_elim, subst, sym, ap, arith, ne_eqb}
use Rattle.std.proofs.Math.ListN.{get_or-eq_default}
use Rattle.std.proofs.lemmas.List.{length-take, get_or-take}
use Rattle.std.proofs.lemmas.List.Folds.{list_any_at}
use mathlib.Core.List.Memᴰ
use mathlib.Core.List.{List, Memᴰ}
use Rattle.std.proofs.Math.Decide.{ℕ_discrete, dec_lt}
use Rattle.base.specs.Laws.Tests.{not_both}
use Rattle.mask.specs.Mask.{has, ◌⊆◌}
use Rattle.policy.specs.declared.Policy.{Policy}
use Rattle.policy.specs.declared.Query.{Query}
use Rattle.policy.specs.Questions.{Accepted}
use Rattle.policy.specs.declared.Rule.{Rule}
use Rattle.policy.specs.Record.{no_rule, rule_of, rules_of, unless_of}
use Rattle.model.specs.World.{world_of}
use Rattle.model.specs.Derivation.{Derivation, Derivable}
use Rattle.model.specs.Laws.Worlds.{reached_more, world_holds}
use Rattle.keep.specs.Search.{some_unless}
use Rattle.engine.specs.Sets.{Offered, Enough}
use Rattle.engine.specs.Keep.{NoUnless}

-- where the test finds none, no rule has an unless entry
pub no_unless : (p : Policy) → some_unless p ≡ false → NoUnless p
unfolding some_unless
no_unless p e k l = elim (dec_lt k (length p.rule)) [
  | yes h ↦
      let there : k < length (rules_of p) = omega (arith, length-take p.rules p.rule) in
      let here : rule_of p k ≡ get_or (rules_of p) k no_rule = sym (get_or-take p.rules p.rule k no_rule l) in
      elim (ℕ_discrete (rule_of p k).unless.count 0) [
        | yes z ↦ z
        | no ne ↦
            let some : not (eqb (get_or (rules_of p) k no_rule).unless.count 0) ≡ true = rw (← here, ne_eqb (rule_of p k).unless.count 0 ne) in
            absurd (not_both (list_any_at _ (rules_of p) k no_rule there some) e)
      ]
  | no h ↦ ap (λ (r : Rule). r.unless.count) (get_or-eq_default p.rule no_rule (omega arith))
]

module _ (p : Policy) (none : NoUnless p) where
  no_entry : (k d : ℕ) → k < p.rules → Memᴰ d (unless_of p k) → ⊥
  no_entry k d l m = Memᴰ.not-nil (subst (λ (n : ℕ). Memᴰ d (take n (rule_of p k).unless.at)) (none k l) m)

  -- so a derivation in a world is one in a larger world, whatever else has a derivation there
  derivation_more : {w v : ℕ} {A B : ℕ → Type 0} {d : ℕ} {ks : List ℕ} → w ⊆ v → Derivation p w A d ks → Derivation p v B d ks
  derivation_more sub t = record {
    steps = λ before after k e. let a = t.steps before after k e in record {
      exists = a.exists;
      enabled = λ i h. sub i (a.enabled i h);
      ifs = a.ifs;
      unless = λ c m h. no_entry k c a.exists m;
    };
    ends = t.ends;
    levels = t.levels;
  }

  derivable_more : (w v : ℕ) → w ⊆ v → (d : ℕ) → Derivable p w d → Derivable p v d
  unfolding Derivable
  derivable_more w v sub d (ks, t) = (ks, derivation_more sub t)

module _ (p : Policy) (q : Query) (ok : Accepted p q) where
  world_more : (s t : ℕ) → s ⊆ t → world_of p q.done s ⊆ world_of p q.done t
  world_more s t sub i h = (world_holds p q ok q.done t i).1
      (reached_more (λ a. ⊎_elim inl (λ (k : T (has s a)). inr (sub a k))) ((world_holds p q ok q.done s i).0 h))

  -- every larger set is enough
  pub enough_more : NoUnless p → (s t : ℕ) → s ⊆ t → Offered p q t → Enough p q s → Enough p q t
  enough_more none s t sub o e = record { offered = o; clears = derivable_more p none _ _ (world_more s t sub) q.want e.clears }
