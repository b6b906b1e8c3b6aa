-- What is handed back of a draft and of a file.
use Rattle.std.specs.Prelude.{ℕ, ◌≡◌, refl, Bool, true, false, List, Result, Ok, Err}
use Rattle.std.specs.Result.{IsErrAnd}
use Rattle.std.proofs.Common.{arith, sym, ap, subst, ◌∙◌}
use Rattle.policy.specs.declared.refusal.Refusal.{Refusal}
use Rattle.policy.specs.declared.refusal.Refusal.TheVariants.{TooLong, Malformed, OutOfRange, NotRising, LevelsUnfit, WeightsUnfit, SharesWithDone, ListTooShort, NoLevels, BufferTooShort}
use Rattle.policy.specs.Refusal.{number_of, refusal_of, outcome}
use Rattle.policy.specs.Laws.Refusals.{outcome_ok, outcome_refused}
use Rattle.policy.specs.Questions.{first_no, levels_fit, weights_fit, check_record_of}
use Rattle.reader.specs.declared.Reading.{Reading}
use Rattle.reader.specs.File.{refused_reading, handed_by, draft_of, read_of}
use Rattle.reader.specs.Claim.{DraftStates, Drafts, Reads}
use Rattle.reader.specs.Laws.Files.{number, answered, read_refused, drafted}
use Rattle.reader.specs.Laws.Means.{drafts, reads}
use Rattle.reader.specs.Laws.States.{draft_states, check_number}

-- what equals the definition means what that means
pub draft_means : (s : List ℕ) {r : Reading} → r ≡ draft_of s → Drafts s r
draft_means s e = subst (Drafts s) (sym e) (drafts s)

pub read_means : (s : List ℕ) {r : Reading} → r ≡ read_of s → Reads s r
read_means s e = subst (Reads s) (sym e) (reads s)

err_is : {A : Type 0} {e f : Refusal} → ◌≡◌ {A = Result A Refusal} (Err e) (Err f) → e ≡ f
err_is h = cc

-- a draft that is not refused
pub drafted_is : (s : List ℕ) {d : Result Reading Refusal} {r : Reading} → handed_by d ≡ draft_of s → d ≡ Ok r → r ≡ draft_of s
unfolding handed_by
drafted_is s h is = sym (ap handed_by is) ∙ h

-- a refusal has a number that is not 0
number_some : (e : Refusal) → ¬ (number_of e ≡ 0)
number_some TooLong z = omega arith
number_some Malformed z = omega arith
number_some OutOfRange z = omega arith
number_some NotRising z = omega arith
number_some LevelsUnfit z = omega arith
number_some WeightsUnfit z = omega arith
number_some SharesWithDone z = omega arith
number_some ListTooShort z = omega arith
number_some NoLevels z = omega arith
number_some BufferTooShort z = omega arith

module _ (s : List ℕ) where
  -- a refused draft is a refused file
  pub draft_refuses : {d : Result Reading Refusal} (q : Result Reading Refusal) {e : Refusal} → handed_by d ≡ draft_of s → d ≡ Err e →
      IsErrAnd q (λ x. x ≡ e) → handed_by q ≡ read_of s
  unfolding handed_by refused_reading
  draft_refuses (Ok r) h is same = absurd same
  draft_refuses (Err x) {e} h is same =
      let refused : refused_reading (number_of e) ≡ draft_of s = sym (ap handed_by is) ∙ h in
      let some : ¬ ((draft_of s).refusal ≡ 0) = λ z. number_some e (ap (λ (x : Reading). x.refusal) refused ∙ z) in
      ap (λ y. refused_reading (number_of y)) same ∙ refused ∙ sym (read_refused s some)

  module _ {r : Reading} (h : r ≡ draft_of s) (z : r.refusal ≡ 0) {c : Result (Unit {0}) Refusal} (k : c ≡ outcome (check_record_of r.policy r.queries)) where
    abbrev a : Bool
    a = levels_fit r.policy

    abbrev b : Bool
    b = weights_fit r.policy

    zero : (draft_of s).refusal ≡ 0
    zero = sym (ap (λ (x : Reading). x.refusal) h) ∙ z

    -- questions 5 and 6 decide what the engine's check answers, and what is read
    check_is : c ≡ outcome (number a b)
    check_is = k ∙ ap outcome (check_number (subst (DraftStates s) (sym h) (draft_states s zero)))

    read_is : read_of s ≡ answered r a b
    read_is = subst (λ x. read_of s ≡ answered x (levels_fit x.policy) (weights_fit x.policy)) (sym h) (drafted s zero).read

    pub check_refuses : (q : Result Reading Refusal) {e : Refusal} → c ≡ Err e → IsErrAnd q (λ x. x ≡ e) → handed_by q ≡ read_of s
    unfolding handed_by answered outcome first_no refusal_of
    check_refuses (Ok r) is same = absurd same
    check_refuses (Err x) {e} is same = ap (λ y. refused_reading (number_of y)) same ∙ go a b (sym is ∙ check_is) ∙ sym read_is
      where
        go : (a b : Bool) → Err e ≡ outcome (number a b) → refused_reading (number_of e) ≡ answered r a b
        go true true f = absurd (outcome_refused 0 f refl)
        go true false f = ap (λ y. refused_reading (number_of y)) (err_is f)
        go false b f = ap (λ y. refused_reading (number_of y)) (err_is f)

    pub check_passes : {u : Unit {0}} → c ≡ Ok u → r ≡ read_of s
    unfolding answered first_no
    check_passes {u} is = go a b (outcome_ok _ (sym is ∙ check_is)) ∙ sym read_is
      where
        go : (a b : Bool) → number a b ≡ 0 → r ≡ answered r a b
        go true true f = refl
        go true false f = absurd (omega arith)
        go false b f = absurd (omega arith)
