-- The lines of a policy after its counts read the text of its entries.
use Rattle.std.specs.Prelude.{ℕ, ◌≤◌, ◌≡◌, refl, length}
use native.Mathlib.Omega.{arith}
use Rattle.std.proofs.Math.Path.{sym, ap, ap₂}
use Rattle.std.proofs.Common.{◌∙◌, append-nil}
use Rattle.base.specs.Laws.All.{All}
use Rattle.base.specs.Laws.Lists.{filled_front}
use Rattle.policy.specs.declared.Policy.{Policy}
use Rattle.policy.specs.Record.{levels_of, actions_of, rules_of, no_action}
use Rattle.format.specs.Text.{ascii}
use Rattle.format.specs.Written.{level_text, entries_text}
use Rattle.format.specs.Entries.{zero_rule, record_of, entries}
use Rattle.format.specs.Laws.Reads.{Reads, ◌and◌, reads_as, pure_reads, then_reads, times_reads}
use Rattle.format.specs.Laws.Lines.{number_reads}
use Rattle.format.specs.Laws.Records.{ReadableAction, ReadableRule, action_reads, rule_reads}

-- a policy with zeros past its counts
abbrev pub clear_policy : Policy → Policy
clear_policy p = record_of p.decisions p.actions (levels_of p) (actions_of p) (rules_of p)

-- a policy whose entries lines can state, after n decisions and m actions were counted
pub record ReadableEntries (n m : ℕ) (p : Policy) : Type 0 where
  pub decisions : p.decisions ≡ n
  pub actions : p.actions ≡ m
  pub few_rules : p.rules ≤ 256
  pub level_count : length (levels_of p) ≡ n
  pub action_count : length (actions_of p) ≡ m
  pub rule_count : length (rules_of p) ≡ p.rules
  pub levels : All (λ l. l ≤ 15) (levels_of p)
  pub action : All (ReadableAction m) (actions_of p)
  pub rule : All (ReadableRule n m) (rules_of p)
  pub clear : p ≡ clear_policy p

-- a policy that lines can state: each number in its range, each list rising, zeros past each count
pub record ReadablePolicy (p : Policy) : Type 0 where
  pub some_decisions : 1 ≤ p.decisions
  pub few_decisions : p.decisions ≤ 128
  pub few_actions : p.actions ≤ 16
  pub entries : ReadableEntries p.decisions p.actions p

module _ (n m : ℕ) (some : 1 ≤ n) (few : n ≤ 128) (h : m ≤ 16) where
  -- the lines of a policy after its counts
  pub entries_reads : Reads (entries n m) entries_text (ReadableEntries n m)
  unfolding entries entries_text level_text record_of
  entries_reads =
      reads_as (λ p. rw append-nil)
      (λ p g. let same = g.1.1.1.1 in record {
        decisions = ap (λ p. p.decisions) same;
        actions = ap (λ p. p.actions) same;
        few_rules = g.1.1.0.1;
        level_count = g.0.0;
        action_count = g.1.0.0;
        rule_count = g.1.1.1.0.0;
        levels = λ l m. (g.0.1 l m).1;
        action = g.1.0.1;
        rule = g.1.1.1.0.1;
        clear = same ∙ ap₂ (λ n m. record_of n m (levels_of p) (actions_of p) (rules_of p))
            (sym (ap (λ p. p.decisions) same)) (sym (ap (λ p. p.actions) same));
      })
      (λ p f.
      (f.level_count, λ l m. (omega arith, f.levels l m)) and (f.action_count, f.action)
      and (omega arith, f.few_rules) and (f.rule_count, f.rule)
      and (f.clear ∙ ap₂ (λ n m. record_of n m (levels_of p) (actions_of p) (rules_of p)) f.decisions f.actions))
      (then_reads levels_of (λ l p f g. sym (ap levels_of g.1.1.1 ∙ filled_front 128 n 0 l f.0))
      (times_reads n (number_reads (ascii "level") 0 15 (omega arith)))
      (λ l _. then_reads actions_of (λ a p f g. sym (ap actions_of g.1.1 ∙ filled_front 16 m no_action a f.0))
      (times_reads m (action_reads m h))
      (λ a _. then_reads (λ p. p.rules) (λ k p _ g. sym (ap (λ p. p.rules) g.1 ∙ g.0.0))
      (number_reads (ascii "rules") 0 256 (omega arith))
      (λ k _. then_reads rules_of (λ rs p f g. sym (ap rules_of g ∙ filled_front 256 (length rs) zero_rule rs refl))
      (times_reads k (rule_reads n m some few h))
      (λ rs _. pure_reads (record_of n m l a rs))))))
