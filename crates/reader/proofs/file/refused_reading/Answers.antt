-- `reader::file::refused_reading` meets its contract.
use Rattle.std.proofs.Math.ListN.{replicate}
use Rattle.base.specs.Lists.{filled}
use Rattle.format.specs.Entries.{record_of}
use Rattle.reader.specs.File.{refused_reading}
use Rattle.reader.proofs.file.refused_reading.Goals as goal

pub returns : goal.returns
unfolding refused_reading record_of filled
returns c =
    λ i. record {
      refusal = c.from.ensures i;
      policy = record {
        decisions = 0;
        actions = 0;
        rules = 0;
        level = replicate 128 0;
        action = replicate 16 (c.zero_action.ensures i);
        rule = replicate 256 (c.zero_rule.ensures i);
      };
      queries = record { count = 0; at = replicate 64 (c.zero_query.ensures i) };
    }
