-- Words that are right stay right by each rule of the level, and are right at it once its rules add nothing.
use Rattle.std.specs.Prelude.{ℕ, suc, ◌<◌, ◌&&◌, not, List, ◌≡◌, T, length, replicate}
use Rattle.std.proofs.Common.{⊎_elim, sym, subst, ◌∙◌, arith, length-set}
use Rattle.std.proofs.lemmas.List.{length-replicate}
use Rattle.base.specs.Laws.Tests.{either, and_make, and_left, and_right, every_at, every_make, get_or_filled}
use Rattle.mask.specs.Mask.{has}
use Rattle.mask.specs.Laws.{has_none, contains_iff}
use Rattle.policy.specs.declared.Policy.{Policy}
use Rattle.policy.specs.declared.Query.{Query}
use Rattle.policy.specs.Questions.{Accepted}
use Rattle.policy.specs.Record.{rule_of, head_of, ifs_of, unless_of, level_of}
use Rattle.model.specs.World.{enabled}
use Rattle.model.specs.Derivation.{Derivable}
use Rattle.model.specs.Laws.Strata.{stratified}
use Rattle.settle.specs.Words.{added_of, grown}
use Rattle.settle.specs.Right.{bit, world_at, Right, Enables}
use Rattle.settle.specs.Laws.Bits.{adds, adds_make}
use Rattle.settle.specs.Laws.Grown.{grown_still, grown_only}
use Rattle.settle.specs.Laws.Level.{Ready, step, settled}

module _ (p : Policy) (q : Query) (ok : Accepted p q) (w sets : ℕ) where
  -- at first nothing is held
  pub right_start : Right p q w sets 0 (replicate 128 0)
  right_start = record {
    size = length-replicate {A = ℕ} 128 0;
    within = λ i d t. absurd (blank i d t);
    sound = λ i d t. absurd (blank i d t);
    complete = λ i s d h. absurd (omega arith);
  }
    where
      blank : (i d : ℕ) → T (bit (replicate 128 0) i d) → ⊥
      blank i d t = has_none i (subst (λ (x : ℕ). T (has x i)) (get_or_filled 128 d 0) t)

  module _ (n k word : ℕ) (held : List ℕ) (good : Right p q w sets n held) (e : Enables p q w sets k word) (exists : k < p.rules)
      (level : level_of p (head_of p k) ≡ n) where
    abbrev more : ℕ
    more = added_of held word (rule_of p k)

    module _ (i : ℕ) where
      -- what a rule adds is one of the sets, and there the rule is ready
      found : T (has more i) → T (has sets i) × Ready p (world_at p q w sets i) n (bit held i) k
      found t =
          let all = adds held i word (rule_of p k) t in
          let both : T (has sets i && enabled (world_at p q w sets i) (rule_of p k)) = subst T (e i) all.enables in (
            and_left (has sets i) (enabled (world_at p q w sets i) (rule_of p k)) both,
            record {
              exists = exists;
              level = level;
              enabled = (contains_iff (world_at p q w sets i) (rule_of p k).needs).0
                  (and_right (has sets i) (enabled (world_at p q w sets i) (rule_of p k)) both);
              ifs = every_at (bit held i) (ifs_of p k) all.ifs;
              unless = every_at (λ d. not (bit held i d)) (unless_of p k) all.unless;
            },
          )

      -- a rule that adds nothing holds its head wherever it is ready
      pub quiet : more ≡ 0 → T (has sets i) → Ready p (world_at p q w sets i) n (bit held i) k → T (bit held i (head_of p k))
      quiet none s r = ⊎_elim {C = T (bit held i (head_of p k))} (λ (t : T (bit held i (head_of p k))). t)
          (λ (f : T (not (bit held i (head_of p k)))). absurd (has_none i (subst (λ (x : ℕ). T (has x i)) none (fires f))))
          (either (bit held i (head_of p k)))
        where
          fires : T (not (bit held i (head_of p k))) → T (has more i)
          fires f = adds_make held i word (rule_of p k) (record {
            enables = subst T (sym (e i)) (and_make (has sets i) (enabled (world_at p q w sets i) (rule_of p k)) s
                ((contains_iff (world_at p q w sets i) (rule_of p k).needs).1 r.enabled));
            lacks = f;
            ifs = every_make (bit held i) (ifs_of p k) r.ifs;
            unless = every_make (λ d. not (bit held i d)) (unless_of p k) r.unless;
          })

    head : head_of p k < length held
    head = omega (arith, good.size, (stratified p q ok).heads k exists)

    -- adding keeps the words right
    pub right_next : Right p q w sets n (grown held (head_of p k) more)
    right_next = record {
      size = length-set held (head_of p k) _ ∙ good.size;
      within = λ i d t. ⊎_elim {C = T (has sets i)} (good.within i d) (λ (x : (d ≡ head_of p k) × T (has more i)). (found i x.1).0)
          (grown_only held (head_of p k) more head i d t);
      sound = λ i d t. ⊎_elim {C = Derivable p (world_at p q w sets i) d} (good.sound i d)
          (λ (x : (d ≡ head_of p k) × T (has more i)). subst (Derivable p (world_at p q w sets i)) (sym x.0)
          (step p q ok (world_at p q w sets i) n (bit held i) (good.sound i) (good.complete i (found i x.1).0) k
          (found i x.1).1))
          (grown_only held (head_of p k) more head i d t);
      complete = λ i s d h t. grown_still held (head_of p k) more head i d (good.complete i s d h t);
    }

  -- once no rule of the level adds anything, the words are right at it
  pub right_level : {n : ℕ} {held : List ℕ} → Right p q w sets n held
      → ((k : ℕ) → k < p.rules → level_of p (head_of p k) ≡ n → (word : ℕ) × Enables p q w sets k word ×
      (added_of held word (rule_of p k) ≡ 0))
      → Right p q w sets (suc n) held
  right_level {n} {held} good none = record {
    size = good.size;
    within = good.within;
    sound = good.sound;
    complete = λ i s. settled p q ok (world_at p q w sets i) n (bit held i) (good.sound i) (good.complete i s)
        (λ k r. let one = none k r.exists r.level in quiet n k one.0 held good one.1 r.exists r.level i one.2 s r);
  }
