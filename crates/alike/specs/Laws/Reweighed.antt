-- Lists of actions in which one weight is replaced.
use Rattle.std.specs.Prelude.{ℕ, zero, suc, ◌+◌, Bool, true, false, not, cond, ◌≤◌, List, [], ◌∷◌, ◌↔◌, ◌≡◌, refl, T, eqb, leb, take}
use Rattle.std.specs.List.{zip}
use Rattle.std.proofs.lemmas.List.Sums.{sum_by-cons}
use Rattle.std.specs.Cmp.Lexicographic.{pointwise}
use Rattle.std.proofs.Common.{ap, ◌∙◌, subst, arith, eq-eqb, ne_eqb, leb→le, le→leb}
use Rattle.std.proofs.Math.Decide.{ℕ_discrete}
use Rattle.std.proofs.Math.Dec.{eqb_refl}
use Rattle.base.specs.Laws.Tests.{and_make, and_left, and_right, parts}
use Rattle.policy.specs.declared.Action.{Action}
use Rattle.alike.specs.Comparable.{weighing, reweighed_in, same_kind, same_but_weight, weights_differ, changes, same_actions}
use Rattle.alike.specs.Comparable.{OneWeight}
use Rattle.alike.specs.Laws.Paired.{equal_iff, kind_iff}

-- the front of such a list
pub front : (n : ℕ) (l : List Action) (a w : ℕ) → take n (reweighed_in l a w) ≡ reweighed_in (take n l) a w
front zero l a w = refl
front (suc n) [] a w = refl
front (suc n) (x ∷ l) zero w = refl
front (suc n) (x ∷ l) (suc a) w = ap (λ (m : List Action). x ∷ m) (front n l a w)

-- of two actions that are the same but for their weights, one is the other with its weight
weighing_is : (x y : Action) → T (same_but_weight x y) → weighing x y.weight ≡ y
unfolding same_but_weight
weighing_is x y t =
    let kind : x.kind ≡ y.kind = (kind_iff _ _).0 (search parts) in
    let also : x.also ≡ y.also = (equal_iff _ _).0 (search parts) in
    λ i. record { kind = kind i; weight = y.weight; also = also i }

but_weight : (x : Action) (w : ℕ) → T (same_but_weight x (weighing x w))
unfolding same_but_weight
but_weight x w =
    and_make (same_kind x.kind x.kind) (eqb x.also x.also) ((kind_iff x.kind x.kind).1 refl) (eqb_refl x.also)

pub action_iff : (x y : Action) → T (same_but_weight x y) ↔ (weighing x y.weight ≡ y)
action_iff x y = (weighing_is x y, λ e. subst (λ (z : Action). T (same_but_weight x z)) e (but_weight x y.weight))

action_is : (x y : Action) → T (same_but_weight x y) → x.weight ≡ y.weight → x ≡ y
action_is x y t e = (λ i. weighing x (e i)) ∙ weighing_is x y t

-- 1 where the weights differ, and else 0
abbrev pub differ : Action → Action → ℕ
differ x y = cond (eqb x.weight y.weight) 0 1

-- a weight that is the same counts no change, and another counts one
pub no_change : (x y : Action) → x.weight ≡ y.weight → differ x y ≡ 0
no_change x y e = rw (eq-eqb x.weight y.weight e)

pub change : (x y : Action) → ¬ (x.weight ≡ y.weight) → differ x y ≡ 1
change x y ne = rw (ne_eqb x.weight y.weight ne)

pub one_at_most : (x y : Action) → differ x y ≤ 1
one_at_most x y = elim (ℕ_discrete x.weight y.weight) [
  | yes e ↦ omega (arith, no_change x y e)
  | no ne ↦ omega (arith, change x y ne)
]

cond_not : {A : Type 0} (b : Bool) (x y : A) → cond (not b) x y ≡ cond b y x
cond_not true x y = refl
cond_not false x y = refl

one_more : (x y : Action) (l m : List Action) → changes (x ∷ l) (y ∷ m) ≡ differ x y + changes l m
one_more x y l m =
    sum_by-cons (λ p. cond (weights_differ p) 1 0) (x, y) (zip l m)
    ∙ ap (λ n. n + changes l m) (cond_not (eqb x.weight y.weight) 1 0)

-- no weight is changed: the same list
unchanged : (l m : List Action) → T (pointwise same_but_weight l m) → changes l m ≡ 0 → l ≡ m
unchanged [] [] t none = refl
unchanged [] (y ∷ m) t none = absurd t
unchanged (x ∷ l) [] t none = absurd t
unchanged (x ∷ l) (y ∷ m) t none = elim (ℕ_discrete x.weight y.weight) [
  | yes e ↦
      let here = action_is x y (and_left (same_but_weight x y) (pointwise same_but_weight l m) t) e in
      let there = unchanged l m (and_right (same_but_weight x y) (pointwise same_but_weight l m) t) (omega (arith, one_more x y l m, no_change x y e)) in
      λ i. here i ∷ there i
  | no ne ↦ absurd (omega (arith, one_more x y l m, change x y ne))
]

-- at most one is: the other with one weight replaced
one_changed : (l m : List Action) → T (pointwise same_but_weight l m) → changes l m ≤ 1 → OneWeight l m
one_changed [] [] t few = (0, 0, refl)
one_changed [] (y ∷ m) t few = absurd t
one_changed (x ∷ l) [] t few = absurd t
one_changed (x ∷ l) (y ∷ m) t few =
    let first = and_left (same_but_weight x y) (pointwise same_but_weight l m) t in
    let rest = and_right (same_but_weight x y) (pointwise same_but_weight l m) t in
    elim (ℕ_discrete x.weight y.weight) [
      | yes e ↦
          let here = action_is x y first e in
          let there = one_changed l m rest (omega (arith, one_more x y l m, no_change x y e)) in
          (suc there.0, there.1, λ i. here i ∷ there.2 i)
      | no ne ↦
          let here = weighing_is x y first in
          let there = unchanged l m rest (omega (arith, one_more x y l m, change x y ne)) in
          (0, y.weight, λ i. here i ∷ there i)
    ]

-- and such a list passes
same_all : (l : List Action) → T (pointwise same_but_weight l l)
same_all [] = tt
same_all (x ∷ l) = and_make (same_but_weight x x) (pointwise same_but_weight l l) (but_weight x x.weight) (same_all l)

same_changed : (l : List Action) (a w : ℕ) → T (pointwise same_but_weight l (reweighed_in l a w))
same_changed [] a w = tt
same_changed (x ∷ l) zero w =
    and_make (same_but_weight x (weighing x w)) (pointwise same_but_weight l l) (but_weight x w) (same_all l)
same_changed (x ∷ l) (suc a) w =
    and_make (same_but_weight x x) (pointwise same_but_weight l (reweighed_in l a w)) (but_weight x x.weight) (same_changed l a w)

none_changed : (l : List Action) → changes l l ≡ 0
none_changed [] = refl
none_changed (x ∷ l) = omega (arith, one_more x x l l, no_change x x refl, none_changed l)

few_changed : (l : List Action) (a w : ℕ) → changes l (reweighed_in l a w) ≤ 1
few_changed [] a w = omega arith
few_changed (x ∷ l) zero w = omega (arith, one_more x (weighing x w) l l, none_changed l, one_at_most x (weighing x w))
few_changed (x ∷ l) (suc a) w = omega (arith, one_more x x l (reweighed_in l a w), no_change x x refl, few_changed l a w)

pub actions_iff : (l m : List Action) → T (same_actions l m) ↔ OneWeight l m
unfolding same_actions
actions_iff l m = (
  λ t.
      one_changed l m (and_left (pointwise same_but_weight l m) (leb (changes l m) 1) t)
      (leb→le (changes l m) 1 (and_right (pointwise same_but_weight l m) (leb (changes l m) 1) t)),
  λ c. subst (λ (k : List Action). T (same_actions l k)) c.2
      (and_make (pointwise same_but_weight l (reweighed_in l c.0 c.1)) (leb (changes l (reweighed_in l c.0 c.1)) 1)
      (same_changed l c.0 c.1) (le→leb (changes l (reweighed_in l c.0 c.1)) 1 (few_changed l c.0 c.1))),
)
