-- The world of a set is the world of nothing, and what each action of the set leads to by itself.
use Rattle.std.specs.Prelude.{ℕ, ◌^◌, ◌⊎◌, T}
use Rattle.std.proofs.Common.{inl, inr, ⊎_elim, sym, subst}
use Rattle.mask.specs.Mask.{has}
use Rattle.mask.specs.Laws.{has_none, one_has, one_is}
use Rattle.policy.specs.declared.Policy.{Policy}
use Rattle.model.specs.World.{start, follow, InWorld}
use Rattle.model.specs.Laws.Worlds.{reached_more}

module _ (p : Policy) where
  module _ (done s : ℕ) where
    -- one of the actions of s leads to it
    abbrev pub By : ℕ → Type 0
    By i = (a : ℕ) × T (has s a) × InWorld p 0 (2 ^ a) i

    pub spread : (i : ℕ) → InWorld p done s i → InWorld p done 0 i ⊎ By i
    spread i (start (inl t)) = inl (start (inl t))
    spread i (start (inr t)) = inr (i, t, start (inr (one_has i)))
    spread i (follow {a = b} r h t) = ⊎_elim {C = InWorld p done 0 i ⊎ By i}
        (λ (x : InWorld p done 0 b). inl (follow x h t)) (λ (x : By b). inr (x.0, x.1, follow x.2 h t)) (spread b r)

    pub gather : (i : ℕ) → InWorld p done 0 i ⊎ By i → InWorld p done s i
    gather i (inl r) = reached_more (λ a x. ⊎_elim {C = T (has done a) ⊎ T (has s a)} (λ (t : T (has done a)). inl t)
        (λ (t : T (has 0 a)). absurd (has_none a t)) x) r
    gather i (inr (a, t, r)) = reached_more (λ b x. ⊎_elim {C = T (has done b) ⊎ T (has s b)} (λ (u : T (has 0 b)). absurd (has_none b u))
        (λ (u : T (has (2 ^ a) b)). inr (subst (λ (c : ℕ). T (has s c)) (sym (one_is a b u)) t)) x) r
