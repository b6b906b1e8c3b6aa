-- Laws of what calls answer where a question is answered no.
use Prim.Native.Nat.{ℕ, zero, suc, ◌≤◌}
use Rattle.std.specs.Prelude.{◌≡◌, ◌≢◌, refl, Result, Ok, Err}
use Rattle.std.proofs.Common.{arith}
use Rattle.policy.specs.declared.refusal.Refusal.{Refusal}
use Rattle.policy.specs.Questions.{refused_or}
use Rattle.policy.specs.Refusal.{number_of, refusal_of, refuse, outcome}

-- a number from 1 to 10 is its refusal's
pub number_of_refusal : (n : ℕ) → n ≢ 0 → n ≤ 10 → number_of (refusal_of n) ≡ n
unfolding refusal_of
number_of_refusal zero ne few = absurd (ne refl)
number_of_refusal (suc zero) ne few = refl
number_of_refusal (suc (suc zero)) ne few = refl
number_of_refusal (suc (suc (suc zero))) ne few = refl
number_of_refusal (suc (suc (suc (suc zero)))) ne few = refl
number_of_refusal (suc (suc (suc (suc (suc zero))))) ne few = refl
number_of_refusal (suc (suc (suc (suc (suc (suc zero)))))) ne few = refl
number_of_refusal (suc (suc (suc (suc (suc (suc (suc zero))))))) ne few = refl
number_of_refusal (suc (suc (suc (suc (suc (suc (suc (suc zero)))))))) ne few = refl
number_of_refusal (suc (suc (suc (suc (suc (suc (suc (suc (suc zero))))))))) ne few = refl
number_of_refusal (suc (suc (suc (suc (suc (suc (suc (suc (suc (suc zero)))))))))) ne few = refl
number_of_refusal (suc (suc (suc (suc (suc (suc (suc (suc (suc (suc (suc n))))))))))) ne few = absurd (omega arith)

-- what is answered by the number of the first question answered no
pub outcome_ok : (n : ℕ) {u : Unit {0}} → Ok u ≡ outcome n → n ≡ 0
unfolding outcome
outcome_ok zero e = refl
outcome_ok (suc n) e = absurd (let z : ◌≡◌ {A = ℕ} 0 1 = cc in omega arith)

pub outcome_none : (n : ℕ) → n ≡ 0 → outcome n ≡ Ok tt
unfolding outcome
outcome_none n e = rw e

pub outcome_refused : (n : ℕ) {e : Refusal} → Err e ≡ outcome n → ¬ (n ≡ 0)
unfolding outcome
outcome_refused zero e = absurd (let z : ◌≡◌ {A = ℕ} 0 1 = cc in omega arith)
outcome_refused (suc n) e = λ z. omega arith

pub outcome_refuses : (n : ℕ) {e : Refusal} {A : Type 0} (answer : Result A Refusal) → Err e ≡ outcome n → Err e ≡ refused_or n refuse answer
unfolding outcome refused_or
outcome_refuses zero answer e = absurd (let z : ◌≡◌ {A = ℕ} 0 1 = cc in omega arith)
outcome_refuses (suc n) answer e = cc

-- and a refusal has that number
pub outcome_number : (n : ℕ) {e : Refusal} → n ≤ 10 → Err e ≡ outcome n → n ≡ number_of e
unfolding outcome
outcome_number zero few is = absurd (let z : ◌≡◌ {A = ℕ} 0 1 = cc in omega arith)
outcome_number (suc n) few is =
    let same : number_of (refusal_of (suc n)) ≡ suc n = number_of_refusal (suc n) (λ z. omega arith) few in cc
