-- Laws of a policy with the weight of one action replaced: what stays, how it is undone, and what of it stands below the counts.
use Rattle.std.specs.Prelude.{ℕ, zero, suc, ◌≤◌, ◌<◌, List, [], ◌∷◌, ◌≢◌, ◌≡◌, refl, get_or, take}
use Rattle.std.proofs.Common.{sym, ap, ◌∙◌, not-suc-le-zero, arith, get_or-set_other}
use Rattle.policy.specs.declared.Policy.{Policy}
use Rattle.policy.specs.declared.Action.{Action}
use Rattle.policy.specs.Record.{no_action, weight_of, with_entries, cut, Agree}
use Rattle.alike.specs.Comparable.{weighing, reweighed_in, reweighed}
use Rattle.alike.specs.Laws.Reweighed.{front}

-- the weight of action b
abbrev pub weight_in : List Action → ℕ → ℕ
weight_in l b = (get_or l b no_action).weight

-- the also masks stay
pub also_same : (l : List Action) (a w b : ℕ) → (get_or (reweighed_in l a w) b no_action).also ≡ (get_or l b no_action).also
also_same [] a w b = refl
also_same (x ∷ l) zero w zero = refl
also_same (x ∷ l) zero w (suc b) = refl
also_same (x ∷ l) (suc a) w zero = refl
also_same (x ∷ l) (suc a) w (suc b) = also_same l a w b

-- and the other weights
pub weight_other : (l : List Action) (a w b : ℕ) → b ≢ a → weight_in (reweighed_in l a w) b ≡ weight_in l b
weight_other l a w b ne = ap (λ (x : Action). x.weight) (get_or-set_other l a b (weighing (get_or l a no_action) w) no_action ne)

-- that of a is w, where it was more: an action that is not there weighs nothing
pub weight_here : (l : List Action) (a w : ℕ) → w < weight_in l a → weight_in (reweighed_in l a w) a ≡ w
weight_here [] a w h = absurd (not-suc-le-zero h)
weight_here (x ∷ l) zero w h = refl
weight_here (x ∷ l) (suc a) w h = weight_here l a w h

-- its own weight put in: nothing changes
pub own : (l : List Action) (a : ℕ) → reweighed_in l a (weight_in l a) ≡ l
own [] a = refl
own (x ∷ l) zero = refl
own (x ∷ l) (suc a) = ap (λ (m : List Action). x ∷ m) (own l a)

-- or put in after another: that is undone
back : (l : List Action) (a w : ℕ) → reweighed_in (reweighed_in l a w) a (weight_in l a) ≡ l
back [] a w = refl
back (x ∷ l) zero w = refl
back (x ∷ l) (suc a) w = ap (λ (m : List Action). x ∷ m) (back l a w)

-- the first n actions stay where a is not one of them
front_before : (n : ℕ) (l : List Action) (a w : ℕ) → n ≤ a → take n (reweighed_in l a w) ≡ take n l
front_before zero l a w h = refl
front_before (suc n) [] a w h = refl
front_before (suc n) (x ∷ l) zero w h = absurd (not-suc-le-zero h)
front_before (suc n) (x ∷ l) (suc a) w h = ap (λ (m : List Action). x ∷ m) (front_before n l a w (omega arith))

-- the policy without the entries past its counts, with these actions
abbrev cut_with : Policy → List Action → Policy
cut_with p l = with_entries p (cut p).level l (cut p).rule

-- a weight past the count is ignored
pub reweighed_past : (p : Policy) (a w : ℕ) → p.actions ≤ a → Agree (reweighed p a w) p
reweighed_past p a w h = ap (cut_with p) (front_before p.actions p.action a w h)

cut_reweighed : (p : Policy) (a w : ℕ) → cut (reweighed p a w) ≡ reweighed (cut p) a w
cut_reweighed p a w = ap (cut_with p) (front p.actions p.action a w)

-- policies that agree below their counts still do with a weight replaced in both
reweighed_agree : (p p' : Policy) → Agree p p' → (a w : ℕ) → Agree (reweighed p a w) (reweighed p' a w)
reweighed_agree p p' e a w = cut_reweighed p a w ∙ ap (λ (r : Policy). reweighed r a w) e ∙ sym (cut_reweighed p' a w)

-- the other way round: with the first policy's weight put into the second
pub turned : (p p' : Policy) (a w : ℕ) → Agree (reweighed p a w) p' → Agree (reweighed p' a (weight_of p a)) p
turned p p' a w e =
    sym (reweighed_agree (reweighed p a w) p' e a (weight_of p a))
    ∙ ap (λ (l : List Action). cut (with_entries p p.level l p.rule)) (back p.action a w)
