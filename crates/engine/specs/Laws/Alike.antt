-- Policies with the same costs, whose sets clear alike, are answered alike.
use Rattle.std.specs.Prelude.{ℕ, zero, suc, ◌^◌, Bool, ◌&&◌, ◌≡◌, length}
use Rattle.std.proofs.Math.Option.{Option, none, some}
use Rattle.std.proofs.Math.Path.{refl, ap}
use Rattle.std.proofs.Common.{◌∙◌}
use Rattle.base.specs.Laws.Tests.{some_below_same}
use Rattle.mask.specs.Mask.{contains}
use Rattle.mask.specs.Family.{among, minimal, lightest}
use Rattle.mask.specs.Laws.Lightest.{lightest_same}
use Rattle.mask.specs.Laws.Among.{among_same}
use Rattle.policy.specs.declared.Policy.{Policy}
use Rattle.policy.specs.declared.Query.{Query}
use Rattle.weight.specs.Cost.{cost_of}
use Rattle.keep.specs.Keep.{keep_of}
use Rattle.keep.specs.Laws.Same.{keep_of_same}
use Rattle.engine.specs.Calls.{refused_or, answer, clears, slim, slim_sets, best, keep_for}

-- refusals by the same number, or the same answers
pub refused_same : {A : Type 0} (n m : ℕ) (refuse : ℕ → A) (a b : A) → n ≡ m → (m ≡ 0 → a ≡ b) → refused_or n refuse a ≡ refused_or m refuse b
unfolding refused_or
refused_same n zero refuse a b e f = rw e (f refl)
refused_same n (suc m) refuse a b e f = rw e

-- families with the same tests have the same minimal sets
minimal_same : (f g : ℕ → Bool) → ((s : ℕ) → f s ≡ g s) → (s : ℕ) → minimal f s ≡ minimal g s
unfolding minimal
minimal_same f g e s =
    rw (e s, some_below_same s (λ t. contains s t && f t) (λ t. contains s t && g t) (λ t h. rw (e t)))

module _ (p p' : Policy) (q : Query) (actions : p.actions ≡ p'.actions) (clear : (s : ℕ) → clears p q s ≡ clears p' q s) where
  -- the slim sets
  pub slim_sets_alike : slim_sets p q ≡ slim_sets p' q
  unfolding slim_sets slim
  slim_sets_alike =
      among_same (slim p q) (slim p' q) (2 ^ p.actions) (λ s h. minimal_same (clears p q) (clears p' q) clear s)
      ∙ ap (λ (n : ℕ). among (slim p' q) (2 ^ n)) actions

  -- what not to touch beside a set
  keep_alike : (s : ℕ) → keep_for p q s ≡ keep_for p' q s
  unfolding keep_for
  keep_alike s = keep_of_same (clears p q) (clears p' q) clear p.actions s q.done
      ∙ ap (λ (m : ℕ). keep_of (clears p' q) m s q.done) actions

  -- the best set, and the answer that names it
  module _ (cost : (s : ℕ) → cost_of p s ≡ cost_of p' s) where
    best_alike : best p q ≡ best p' q
    unfolding best
    best_alike =
        lightest_same (clears p q) (clears p' q) (cost_of p) (cost_of p') (2 ^ p.actions) (λ s h. clear s) cost
        ∙ ap (λ (n : ℕ). lightest (clears p' q) (cost_of p') (2 ^ n)) actions

    answer_by : (n : ℕ) (o : Option ℕ) → answer p q n o ≡ answer p' q n o
    unfolding answer
    answer_by n none = refl
    answer_by n (some s) = rw (cost s, keep_alike s)

    pub answer_alike : answer p q (length (slim_sets p q)) (best p q) ≡ answer p' q (length (slim_sets p' q)) (best p' q)
    answer_alike = rw (slim_sets_alike, best_alike) (answer_by (length (slim_sets p' q)) (best p' q))
