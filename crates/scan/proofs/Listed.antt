-- The entries of the policy's rules.
use Rattle.std.proofs.Common.{◌≡◌, ℕ, ◌<◌, List, length, get_or, ap, arith}
use Rattle.std.proofs.lemmas.List.{length-take}
use Rattle.policy.specs.declared.Policy.{Policy}
use Rattle.policy.specs.declared.Rule.{Rule}
use Rattle.policy.specs.Record.{no_rule, rules_of, rule_of}
use Rattle.policy.specs.Laws.{RuleFits, InRange, rule_wider}
use Rattle.policy.proofs.Arrays.{front_entry}

module _ (p : Policy) {xs : List Rule} (e : xs ≡ rules_of p) (k : ℕ) where
  module _ (h : k < length xs) where
    -- an entry of the rules is the rule of its number
    pub rule_here : get_or xs k no_rule ≡ rule_of p k
    rule_here = front_entry xs p.rules p.rule no_rule k e h

    pub rule_less : k < p.rules
    rule_less = omega (arith, ap length e, length-take p.rules p.rule)

    -- and in range
    pub rule_ready : InRange p → RuleFits 128 16 (get_or xs k no_rule)
    rule_ready range = rw rule_here (rule_wider range.decisions range.actions (range.rule k rule_less))
