-- What a reader hands back, as an outcome of the parsers.
use Rattle.std.specs.Prelude.{ℕ, ◌+◌, ◌&&◌, List, map, ltb, Result, Ok, Err, Option, Some, None, if◌then◌else◌}
use Rattle.std.proofs.Math.ListN.{set}
use Rattle.std.specs.List.{list_all}
use Rattle.std.proofs.Common.{Bor}
use Rattle.policy.specs.declared.Decisions.{Decisions}
use Rattle.policy.specs.declared.refusal.Refusal.{Refusal}
use Rattle.policy.specs.declared.refusal.Refusal.TheVariants.{Malformed, OutOfRange}
use Rattle.policy.specs.Refusal.{number_of}
use Rattle.format.specs.Parser.{Outcome, refused, found}
use Rattle.lines.specs.declared.Cut.{Cut}
use Rattle.format.specs.Format.{is_number, spelt, is_list, decisions_of}

-- what is read, seen as f sees it, and the bytes that are left after it; or a refusal
unfoldable pub outcome_by : {A B : Type 0} → (A → B) → Result A Refusal → List ℕ → Outcome B
outcome_by f (Ok a) rest = found (f a) rest
outcome_by f (Err e) rest = refused (number_of e)

abbrev pub outcome : {A : Type 0} → Result A Refusal → List ℕ → Outcome A
outcome = outcome_by (λ a. a)

-- the bytes that are left after others were passed; or a refusal
unfoldable pub passed : Result (Bor (List ℕ)) Refusal → Outcome (Unit {0})
passed (Ok rest) = found tt rest.now
passed (Err e) = refused (number_of e)

-- the contents of a line, and the bytes that are left after it; or a refusal
unfoldable pub cut_outcome : Result Cut Refusal → Outcome (List ℕ)
cut_outcome (Ok cut) = found cut.content.now cut.after.now
cut_outcome (Err e) = refused (number_of e)

-- the list with one decision more, where it is below n and there is a place for it
unfoldable pub with : ℕ → Option Decisions → ℕ → Option Decisions
with n None d = None
with n (Some l) d = if ltb l.count 8 && ltb d n then Some (record { count = l.count + 1; at = set l.at l.count d }) else None

-- the list that parts state: each is a number, and they fit
unfoldable pub list_in : ℕ → List (List ℕ) → Result Decisions Refusal
list_in n ps =
    let ds = map (spelt 0) ps in
    if list_all is_number ps then (if is_list n ds then Ok (decisions_of ds) else Err OutOfRange) else Err Malformed
