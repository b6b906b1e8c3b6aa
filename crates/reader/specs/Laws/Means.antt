-- What is handed back of a draft and of a file means what document 01 says of it.
use Rattle.std.specs.Prelude.{ℕ, ◌≤◌, ◌<◌, ◌≡◌, refl, Bool, true, false, List, ◌↔◌, ◌≢◌, length}
use Rattle.std.proofs.Math.Decide.{ℕ_discrete}
use native.Mathlib.Omega.{arith}
use Rattle.std.proofs.Common.{sym, subst, ◌∙◌}
use Rattle.std.proofs.Math.Path.{ap}
use Rattle.base.specs.Laws.Tests.{between_iff}
use Rattle.policy.specs.Questions.{first_no, check_record_of}
use Rattle.format.specs.Bounds.{most_bytes}
use Rattle.format.specs.Parser.{Outcome, refused}
use Rattle.reader.specs.declared.Reading.{Reading}
use Rattle.reader.specs.File.{reading_of, refused_reading, draft, handed, draft_of, read_of}
use Rattle.reader.specs.Claim.{DraftStates, Drafts, Reads}
use Rattle.reader.specs.Laws.Files.{outcome, Case, too_long, line_fails, lines_state, case, number, answered, read_refused, drafted}
use Rattle.reader.specs.Laws.Only.{draft_only, only}
use Rattle.reader.specs.Laws.States.{draft_states, check_number, states}

-- the number that a draft is refused by, and what is handed back with it
record Refusals (s : List ℕ) (r : Reading) : Type 0 where
  zeros : r.refusal ≢ 0 → r ≡ refused_reading r.refusal
  one : (r.refusal ≡ 1) ↔ (most_bytes < length s)
  lines : 1 < r.refusal → draft s ≡ refused r.refusal
  few : r.refusal ≤ 4

-- the number that questions 5 and 6 give, and what is handed back with it
answered_number : (r : Reading) → r.refusal ≡ 0 → (a b : Bool) → (answered r a b).refusal ≡ number a b
unfolding answered refused_reading first_no
answered_number r zero true true = zero
answered_number r zero true false = refl
answered_number r zero false b = refl

answered_zeros : (r : Reading) → r.refusal ≡ 0 → (a b : Bool) → (answered r a b).refusal ≢ 0
    → answered r a b ≡ refused_reading (answered r a b).refusal
unfolding answered refused_reading
answered_zeros r zero true true n = absurd (n zero)
answered_zeros r zero true false n = refl
answered_zeros r zero false b n = refl

module _ (s : List ℕ) where
  refusals : Refusals s (draft_of s)
  unfolding draft_of outcome handed refused_reading reading_of
  refusals = go (case s)
    where
      go : {o : Outcome Reading} → Case s o → Refusals s (handed o)
      go (too_long h) = record { zeros = λ n. refl; one = (λ e. h, λ h. refl); lines = λ l. absurd (omega arith); few = omega arith }
      go (line_fails n h e t) = let some = (between_iff 2 n 4).0 t in record {
        zeros = λ n. refl;
        one = (λ e. absurd (omega arith), λ l. absurd (omega arith));
        lines = λ l. e;
        few = some.1;
      }
      go (lines_state r rest h e f) = let zero = ap (λ (x : Reading). x.refusal) f.clear in record {
        zeros = λ n. absurd (n zero);
        one = (λ e. absurd (omega arith), λ l. absurd (omega arith));
        lines = λ l. absurd (omega arith);
        few = omega arith;
      }

  pub drafts : Drafts s (draft_of s)
  drafts = let known = refusals in record {
    stated = draft_states s;
    only = draft_only s;
    zeros = known.zeros;
    one = known.one;
    lines = known.lines;
    few = known.few;
  }

  -- what is read with a number is a refusal
  zeros_of : (read_of s).refusal ≢ 0 → read_of s ≡ refused_reading (read_of s).refusal
  zeros_of n = elim (ℕ_discrete (draft_of s).refusal 0) [
    | yes zero ↦ rw (drafted s zero).read (answered_zeros (draft_of s) zero _ _ (rw (drafted s zero).read at n))
    | no some ↦ rw (read_refused s some) (refusals.zeros some)
  ]

  -- where the lines state a reading, the number is that of the engine's questions
  number_of : (x : Reading) → DraftStates s x → (read_of s).refusal ≡ check_record_of x.policy x.queries
  number_of x stated =
      let same = draft_only s x stated in
      let zero : (draft_of s).refusal ≡ 0 = sym (ap (λ (y : Reading). y.refusal) same) ∙ stated.none in
      let is = ap (λ (y : Reading). y.refusal) (drafted s zero).read ∙ answered_number (draft_of s) zero _ _ in
      subst (λ (y : Reading). (read_of s).refusal ≡ check_record_of y.policy y.queries) (sym same)
      (is ∙ sym (check_number (draft_states s zero)))

  pub reads : Reads s (read_of s)
  reads = record { stated = states s; only = only s; zeros = zeros_of; early = read_refused s; whole = number_of }
