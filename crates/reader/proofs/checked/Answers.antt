-- `reader::checked` meets its contract.
use Rattle.std.proofs.Common.{◌≡◌}
use Rattle.std.proofs.lemmas.Result.{IfOk-at_ok}
use Rattle.reader.specs.File.{handed_by}
use Rattle.reader.proofs.Means.{drafted_is, draft_refuses, check_refuses, check_passes}
use Rattle.reader.proofs.checked.Goals as goal

pub returns-in_err-reading : goal.returns-in_err-reading
returns-in_err-reading c = draft_refuses _ _ c.drafted.ensures.value c.in_err-reading.was c.from_residual.ensures.1

pub returns-in_err-check_record : goal.returns-in_err-check_record
returns-in_err-check_record c =
    let zero = IfOk-at_ok (λ r. r.refusal ≡ 0) c.in_ok-reading.was c.drafted.ensures.none in
    check_refuses _ (drafted_is _ c.drafted.ensures.value c.in_ok-reading.was) zero c.check_record.ensures.value _ c.in_err-check_record.was
    c.from_residual-in_err-check_record.ensures.1

pub returns : goal.returns
unfolding handed_by
returns c =
    let zero = IfOk-at_ok (λ r. r.refusal ≡ 0) c.in_ok-reading.was c.drafted.ensures.none in
    check_passes _ (drafted_is _ c.drafted.ensures.value c.in_ok-reading.was) zero c.check_record.ensures.value c.in_ok-check_record.was
