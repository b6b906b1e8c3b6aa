-- Places that are filled one after the other, each with what a parser reads.
use Rattle.std.specs.Prelude.{ℕ, zero, suc, ◌+◌, ◌-◌, ◌≤◌, ◌<◌, ◌≡◌, refl, List, ◌∷◌, ◌++◌, length, take, drop, Result, Ok, Err}
use Rattle.std.specs.Result.{IsErrAnd}
use Rattle.std.proofs.Math.ListN.{set, replicate}
use Rattle.std.proofs.Common.{arith, sym, ap, ◌∙◌, append-nil, append_assoc}
use Rattle.std.proofs.lemmas.List.{take_more_set, length-set, take_all, drop-replicate}
use Rattle.base.specs.Lists.{filled}
use Rattle.policy.specs.declared.refusal.Refusal.{Refusal}
use Rattle.policy.specs.Refusal.{number_of}
use Rattle.format.specs.Parser.{Outcome, Parser, refused, found, onward, ◌>>=◌, pure, times}
use Rattle.format.specs.Laws.Reads.{found_value, steps}
use Rattle.lines.specs.Outcomes.{outcome, outcome_by}

module _ {A : Type 0} (m : Parser A) (s : List ℕ) (n : ℕ) where
  -- what `times` makes of s, where i of n places are filled and t is left
  pub record Filling (t : List ℕ) (xs : List A) (i : ℕ) : Type 0 where
    pub size : length xs ≡ n
    pub left : times n m s ≡ onward (λ rest. pure (take i xs ++ rest)) (times (n - i) m t)

  pub begins : (xs : List A) → length xs ≡ n → Filling s xs 0
  unfolding onward
  begins xs e = record { size = e; left = go (times n m s) ∙ (let e : n ≡ n - 0 = omega arith in ap (λ k. onward (λ rest. pure rest) (times k m s)) e) }
    where
      go : (o : Outcome (List A)) → o ≡ onward (λ rest. pure rest) o
      go (refused n) = refl
      go (found a rest) = refl

  module _ {t : List ℕ} {xs : List A} {i : ℕ} (w : Filling t xs i) where
    -- one place more is to be filled
    next : i < n → times n m s ≡ onward (λ rest. pure (take i xs ++ rest)) (times (suc (n - (i + 1))) m t)
    next h = let e : n - i ≡ suc (n - (i + 1)) = omega arith in rw (← e) w.left

    module _ (h : i < n) {r : Result A Refusal} (t' : List ℕ) (k : outcome r t' ≡ m t) where
      pub turns : {a : A} → r ≡ Ok a → Filling t' (set xs i a) (i + 1)
      unfolding times onward outcome_by
      turns {a} e =
          let is : m t ≡ found a t' = sym k ∙ ap (λ q. outcome q t') e in
          record { size = length-set xs i a ∙ w.size; left = next h ∙ rw is (go (times (n - (i + 1)) m t')) }
        where
          here : i < length xs
          here = rw w.size h

          go : (o : Outcome (List A)) → onward (λ rest. pure (take i xs ++ rest)) (onward (λ rest. pure (a ∷ rest)) o)
              ≡ onward (λ rest. pure (take (i + 1) (set xs i a) ++ rest)) o
          go (refused n) = refl
          go (found rest u) = rw (take_more_set xs i a here, append_assoc)

      pub stops : {B : Type 0} (f : B → List A) (q : Result B Refusal) {e : Refusal} (left : List ℕ) → r ≡ Err e → IsErrAnd q (λ x. x ≡ e) →
          outcome_by f q left ≡ times n m s
      unfolding times onward outcome_by
      stops f (Ok b) left e d = absurd d
      stops f (Err x) {e = y} left e d =
          let is : m t ≡ refused (number_of y) = sym k ∙ ap (λ q. outcome q t') e in
          ap (λ z. refused (number_of z)) d ∙ sym (next h ∙ rw is)

    pub ends : n ≤ i → outcome_by {A = Unit {0}} (λ _. xs) (Ok tt) t ≡ times n m s
    unfolding times onward outcome_by
    ends h =
        let none : n - i ≡ 0 = omega arith in
        sym (w.left ∙ rw (none, append-nil, take_all i xs (omega (arith, w.size))))

-- an array of z whose first n places are filled
pub filled_up : {A : Type 0} (m : Parser A) (s : List ℕ) (N : ℕ) {n k : ℕ} (z : A) (xs : List A) {r : Result (Unit {0}) Refusal} (t : List ℕ) →
    k ≡ n → length xs ≡ k → outcome_by (λ _. xs) r t ≡ times k m s → {u : Unit {0}} → r ≡ Ok u →
    outcome (Ok (xs ++ drop n (replicate N z))) t ≡ onward (λ l. pure (filled N z l)) (times n m s)
unfolding outcome_by onward filled
filled_up m s N {n} z xs t e size h is =
    let read : found xs t ≡ times n m s = sym (ap (λ q. outcome_by (λ _. xs) q t) is) ∙ h ∙ ap (λ j. times j m s) e in
    let rest : drop n (replicate N z) ≡ replicate (N - length xs) z = drop-replicate n N z ∙ ap (λ j. replicate (N - j) z) (sym (size ∙ e)) in
    rw rest (ap (onward (λ l. pure (filled N z l))) read)

-- a parser n times over reads n entries
pub as_many : {A : Type 0} (m : Parser A) (n : ℕ) (s : List ℕ) {l : List A} {t : List ℕ} → times n m s ≡ found l t → length l ≡ n
unfolding times onward
as_many m zero s e = ap (λ l. length l) (sym (found_value e))
as_many m (suc n) s e =
    let one = steps m (λ a. times n m >>= (λ r. pure (a ∷ r))) s e in
    let two = steps (times n m) (λ r. pure (one.first ∷ r)) one.between one.after in
    ap (λ l. length l) (sym (found_value two.after)) ∙ ap suc (as_many m n one.between two.before)
