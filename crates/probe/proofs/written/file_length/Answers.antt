-- `probe::written::file_length` meets its contract.
use Rattle.std.proofs.Common.{ℕ, replicate}
use Rattle.std.proofs.lemmas.List.{length-replicate}
use Rattle.format.specs.Bounds.{longest_file}
use Rattle.probe.proofs.Lengths.{bounds}
use Rattle.probe.proofs.written.file_length.Goals as goal

pub returns : goal.returns
returns c = bounds _ _ (replicate longest_file 0) _ _ _ c.ok.ensures.value (length-replicate {A = ℕ} longest_file 0) c.write.ensures.writes
