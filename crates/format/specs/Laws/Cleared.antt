-- The record that a file's lines state: what stands below each count, and zeros past it.
use Rattle.std.specs.Prelude.{map}
use Rattle.policy.specs.declared.Policy.{Policy}
use Rattle.policy.specs.declared.Rule.{Rule}
use Rattle.policy.specs.Record.{listed, levels_of, actions_of, rules_of}
use Rattle.format.specs.Format.{decisions_of}
use Rattle.format.specs.Entries.{record_of}

-- a rule and a policy with zeros past their counts
unfoldable pub cleared_rule : Rule → Rule
cleared_rule r = record {
  head = r.head;
  needs = r.needs;
  ifs = decisions_of (listed r.ifs);
  unless = decisions_of (listed r.unless);
}

unfoldable pub cleared : Policy → Policy
cleared p = record_of p.decisions p.actions (levels_of p) (actions_of p) (map cleared_rule (rules_of p))
