-- `reader::file::reading` meets its contract.
use Rattle.std.proofs.Common.{rules, arith}
use Rattle.format.specs.Parser.{onward}
use Rattle.format.specs.Entries.{query}
use Rattle.lines.specs.Outcomes.{outcome_by}
use Rattle.reader.specs.File.{lines, reading_of}
use Rattle.reader.proofs.Filling.{as_many}
use Rattle.reader.proofs.file.reading.Goals as goal

pub returns : goal.returns
unfolding lines outcome_by onward reading_of
returns c =
    let queries = c.times.ensures (query c.in_ok-number.field-0 c.in_ok-number-2.field-0) (λ x r y k. search rules) in
    grind (arith, as_many)
