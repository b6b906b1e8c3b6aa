-- The keep-off mask of an enough set is found, and it is 0 for a policy with no unless entries.
use Rattle.std.specs.Prelude.{ℕ, ◌^◌, ◌<◌, Bool, ◌&&◌, ◌≡◌, ltb}
use Rattle.std.proofs.Common.{zero-le, sym, subst, lt→ltb, pow_pos}
use Rattle.std.proofs.Math.Bool.{not}
use Rattle.std.proofs.Math.Logic.{⊎_elim}
use Rattle.std.proofs.Math.Option.{Option, none, some}
use Rattle.std.proofs.Math.Decide.{ℕ_discrete}
use Rattle.std.specs.Int.Count.{ones}
use Rattle.std.proofs.Math.Dec.{T, T_not, not_T, ltb→lt}
use Rattle.base.specs.Every.{some_below}
use Rattle.base.specs.Laws.Tests.{either, and_make, and_left, and_right, some_below_at, some_below_make}
use Rattle.mask.specs.Mask.{has, ◌⊆◌, Apart, contains, disjoint}
use Rattle.mask.specs.Family.{lightest}
use Rattle.mask.specs.Laws.{contains_iff, disjoint_iff, has_none, has→<, ⊆_antisym}
use Rattle.mask.specs.Laws.Before.{before_once, before_empty}
use Rattle.mask.specs.Laws.Lightest.{Lightest, Found, lightest_found}
use Rattle.mask.specs.Laws.Ones.{ones_zero}
use Rattle.policy.specs.declared.Policy.{Policy}
use Rattle.policy.specs.declared.Query.{Query}
use Rattle.policy.specs.Questions.{Accepted}
use Rattle.columns.specs.Sets.{is_offered}
use Rattle.keep.specs.Keep.{found_or0, spoilt, keeps_off, keep_of}
use Rattle.keep.specs.Search.{rest_of}
use Rattle.keep.specs.Laws.Rest.{rest_set, rest_apart, rest_undone, rest_has}
use Rattle.engine.specs.Sets.{Offered, Enough, Keeps, BestKeep}
use Rattle.engine.specs.Calls.{clears, keep_for}
use Rattle.engine.specs.Laws.Decide.{clears_iff}

module _ (p : Policy) (q : Query) (ok : Accepted p q) (s : ℕ) where
  -- the test of keep-off masks, and of a set that shows that k is none
  abbrev keeps : ℕ → Bool
  keeps = keeps_off (clears p q) p.actions s q.done

  abbrev spoils : ℕ → Bool
  spoils = spoilt (clears p q) p.actions s q.done

  abbrev clash : ℕ → ℕ → Bool
  clash k t = disjoint t k && spoils t

  -- a set spoils s just if it is offered, contains s, and is not enough
  spoils_at : (t : ℕ) → T (spoils t) → Offered p q t × (s ⊆ t) × ¬ Enough p q t
  unfolding spoilt
  spoils_at t h =
      let on = and_left (is_offered p.actions q.done t) (contains t s && not (clears p q t)) h in
      let rest = and_right (is_offered p.actions q.done t) (contains t s && not (clears p q t)) h in
      let l = ltb→lt t (2 ^ p.actions) (and_left (ltb t (2 ^ p.actions)) (disjoint t q.done) on) in (
        record { set = l; apart = (disjoint_iff t q.done).0 (and_right (ltb t (2 ^ p.actions)) (disjoint t q.done) on) },
        (contains_iff t s).0 (and_left (contains t s) (not (clears p q t)) rest),
        λ e. T_not (clears p q t) (and_right (contains t s) (not (clears p q t)) rest) ((clears_iff p q ok t l).1 e),
      )

  spoils_make : (t : ℕ) → Offered p q t → s ⊆ t → T (not (clears p q t)) → T (spoils t)
  unfolding spoilt
  spoils_make t o sub fails = and_make (is_offered p.actions q.done t) (contains t s && not (clears p q t))
      (and_make (ltb t (2 ^ p.actions)) (disjoint t q.done) (lt→ltb t (2 ^ p.actions) o.set)
      ((disjoint_iff t q.done).1 o.apart))
      (and_make (contains t s) (not (clears p q t)) ((contains_iff t s).1 sub) fails)

  -- the test decides
  keeps_at : (k : ℕ) → k < 2 ^ p.actions → T (keeps k) → Keeps p q s k
  unfolding keeps_off
  keeps_at k l h =
      let rest = and_right (disjoint k s) (disjoint k q.done && not (some_below (2 ^ p.actions) (clash k))) h in
      let sure = and_right (disjoint k q.done) (not (some_below (2 ^ p.actions) (clash k))) rest in
      record {
        offered = record {
          set = l;
          apart = (disjoint_iff k q.done).0 (and_left (disjoint k q.done) (not (some_below (2 ^ p.actions) (clash k))) rest);
        };
        apart = (disjoint_iff k s).0 (and_left (disjoint k s) (disjoint k q.done && not (some_below (2 ^ p.actions) (clash k))) h);
        all = λ t o sub off. ⊎_elim (λ (e : T (clears p q t)). (clears_iff p q ok t o.set).0 e)
            (λ (fails : T (not (clears p q t))). absurd (T_not (some_below (2 ^ p.actions) (clash k)) sure
            (some_below_make (clash k) (2 ^ p.actions) t o.set
            (and_make (disjoint t k) (spoils t) ((disjoint_iff t k).1 off) (spoils_make t o sub fails)))))
            (either (clears p q t));
      }

  keeps_make : (k : ℕ) → Keeps p q s k → T (keeps k)
  unfolding keeps_off
  keeps_make k h = and_make (disjoint k s) (disjoint k q.done && not (some_below (2 ^ p.actions) (clash k)))
      ((disjoint_iff k s).1 h.apart)
      (and_make (disjoint k q.done) (not (some_below (2 ^ p.actions) (clash k))) ((disjoint_iff k q.done).1 h.offered.apart)
      (not_T (some_below (2 ^ p.actions) (clash k)) (λ some. none_clashes (some_below_at (clash k) (2 ^ p.actions) some))))
    where
      none_clashes : (t : ℕ) × (t < 2 ^ p.actions) × T (clash k t) → ⊥
      none_clashes (t, l, c) =
          let bad = spoils_at t (and_right (disjoint t k) (spoils t) c) in
          bad.2 (h.all t bad.0 bad.1 ((disjoint_iff t k).0 (and_left (disjoint t k) (spoils t) c)))

  -- the actions that are neither in s nor done keep everything off
  keeps_rest : Enough p q s → Keeps p q s (rest_of p.actions q.done s)
  keeps_rest e = record {
    offered = record { set = rest_set p.actions q.done s; apart = rest_undone p.actions q.done s };
    apart = rest_apart p.actions q.done s;
    all = λ t o sub off. subst (Enough p q) (⊆_antisym s t sub (λ i h. inside t o off i h)) e;
  }
    where
      inside : (t : ℕ) → Offered p q t → Apart t (rest_of p.actions q.done s) → t ⊆ s
      inside t o off i h = ⊎_elim (λ (k : T (has s i)). k) (λ (out : T (not (has s i))).
          absurd (off i h (rest_has p.actions q.done s i (has→< t i p.actions h o.set) (T_not (has s i) out) (o.apart i h))))
          (either (has s i))

  lightest_best : (k : ℕ) → Lightest keeps ones (2 ^ p.actions) k → BestKeep p q s k
  lightest_best k l = record {
    keeps = keeps_at k l.below l.taken;
    least = λ t ne h. l.least t h.offered.set ne (keeps_make t h);
  }

  -- a best keep-off mask can always be found where s is enough
  pub keep_best : Enough p q s → BestKeep p q s (keep_for p q s)
  unfolding keep_for keep_of found_or0
  keep_best e = from (lightest keeps ones (2 ^ p.actions)) (lightest_found keeps ones (2 ^ p.actions))
    where
      from : (o : Option ℕ) → Found keeps ones (2 ^ p.actions) o → BestKeep p q s (found_or0 o)
      from none f = absurd (f (rest_of p.actions q.done s) (rest_set p.actions q.done s)
          (keeps_make (rest_of p.actions q.done s) (keeps_rest e)))
      from (some k) f = lightest_best k f

  -- and there is one at the most
  pub best_once : (a b : ℕ) → BestKeep p q s a → BestKeep p q s b → a ≡ b
  best_once a b h k = elim (ℕ_discrete a b)
      [ yes e ↦ e | no ne ↦ absurd (before_once ones a b (h.least b (λ e. ne (sym e)) k.keeps) (k.least a ne h.keeps)) ]

  -- it is 0 where every larger offered set is enough
  pub keep_zero : ((t : ℕ) → s ⊆ t → Offered p q t → Enough p q t) → Enough p q s → keep_for p q s ≡ 0
  keep_zero up e = elim (ℕ_discrete (keep_for p q s) 0) [
    | yes z ↦ z
    | no ne ↦ absurd (before_empty ones (keep_for p q s) (rw ones_zero zero-le) ((keep_best e).least 0 (λ z. ne (sym z)) nothing))
  ]
    where
      nothing : Keeps p q s 0
      nothing = record {
        offered = record { set = pow_pos p.actions; apart = λ i t h. has_none i t };
        apart = λ i t h. has_none i t;
        all = λ t o sub off. up t sub o;
      }
