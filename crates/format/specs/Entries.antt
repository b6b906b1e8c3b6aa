-- The lines of a policy and of its queries, and the record that they state.
use Rattle.std.specs.Prelude.{ℕ, ◌-◌, ◌^◌, List, [], length}
use Rattle.base.specs.Lists.{filled}
use Rattle.policy.specs.declared.Policy.{Policy}
use Rattle.policy.specs.declared.Rule.{Rule}
use Rattle.policy.specs.declared.Query.{Query}
use Rattle.policy.specs.declared.Action.{Action}
use Rattle.policy.specs.Record.{no_action}
pub use Rattle.policy.specs.Record.{zero_query}
use Rattle.format.specs.Text.{ascii}
use Rattle.format.specs.Parser.{Parser, ◌>>=◌, pure, times}
use Rattle.format.specs.Format.{decisions_of, number_line, kind_line, list_line}

-- what stands past the count of rules
unfoldable pub zero_rule : Rule
zero_rule = record { head = 0; needs = 0; ifs = decisions_of []; unless = decisions_of [] }

-- three lines of an action, where there are m actions
unfoldable pub action : ℕ → Parser Action
action m = do
  k ← kind_line
  w ← number_line (ascii "weight") 1 65535
  a ← number_line (ascii "also") 0 (2 ^ m - 1)
  pure (record { kind = k; weight = w; also = a })

-- four lines of a rule, where there are n decisions and m actions
unfoldable pub rule : ℕ → ℕ → Parser Rule
rule n m = do
  h ← number_line (ascii "head") 0 (n - 1)
  a ← number_line (ascii "needs") 0 (2 ^ m - 1)
  i ← list_line (ascii "if") n
  u ← list_line (ascii "unless") n
  pure (record { head = h; needs = a; ifs = i; unless = u })

-- two lines of a query
unfoldable pub query : ℕ → ℕ → Parser Query
query n m = do
  w ← number_line (ascii "want") 0 (n - 1)
  d ← number_line (ascii "done") 0 (2 ^ m - 1)
  pure (record { want = w; done = d })

-- the record of what the lines state, the places past a count zero
unfoldable pub record_of : ℕ → ℕ → List ℕ → List Action → List Rule → Policy
record_of n m levels actions rules =
    record {
      decisions = n;
      actions = m;
      rules = length rules;
      level = filled 128 0 levels;
      action = filled 16 no_action actions;
      rule = filled 256 zero_rule rules;
    }

-- the lines of a policy after its two counts: the levels, the actions and the rules
unfoldable pub entries : ℕ → ℕ → Parser Policy
entries n m = do
  levels ← times n (number_line (ascii "level") 0 15)
  actions ← times m (action m)
  r ← number_line (ascii "rules") 0 256
  rules ← times r (rule n m)
  pure (record_of n m levels actions rules)
