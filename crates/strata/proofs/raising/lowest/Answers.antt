-- `lowest` computes the levels of the definition: the invariants of its loops are in `Rounds`.
use Prim.Native.Nat.{ℕ, ◌<◌}
use mathlib.Core.Bool.{true}
use mathlib.Core.Path.{◌≡◌, sym, ◌∙◌, ap, subst}
use mathlib.Core.List.{List}
use native.Mathlib.Omega.{arith}
use lib.ListN.{get_or, length}
use Rattle.policy.specs.declared.Policy.{Policy}
use Rattle.policy.specs.declared.Rule.{Rule}
use Rattle.policy.specs.Record.{no_rule, rule_of, rules_of}
use Rattle.policy.proofs.Arrays.{front_entry}
use Rattle.strata.specs.Levels.{asked}
use Rattle.policy.specs.Questions.{others_in_range}
use Rattle.policy.specs.Laws.{RuleFits, rule_wider}
use Rattle.strata.proofs.Rounds.{round_first, turn_raised, turn_kept, fewer_rounds, rounds_end, range}
use Rattle.strata.proofs.raising.lowest.Goals.{then-level-head, else-level-head}
use Rattle.strata.proofs.raising.lowest.Goals as goal

pub rounds-init : goal.rounds-init
rounds-init c = round_first _

-- a rule is in range
ready : (p : Policy) → others_in_range p ≡ true → (k : ℕ) → k < p.rules → RuleFits 128 16 (rule_of p k)
ready p three k less =
    let known = range p three in
    rule_wider known.decisions known.actions (known.rule k less)

-- and so is one that the loop reads
read : (p : Policy) {items : List Rule} → others_in_range p ≡ true → items ≡ rules_of p → (k : ℕ) → k < p.rules → k < length items
    → RuleFits 128 16 (get_or items k no_rule)
read p {items} three e k less there =
    subst (RuleFits 128 16) (sym (front_entry items p.rules p.rule no_rule k e there)) (ready p three k less)

pub asked-need-requires : goal.asked-need-requires
asked-need-requires c = record {
  each_small = c.loop-rule.invariant.now.small;
  rule_fits = read _ c.requires.range c.rules-rule-items.ensures.value _ (omega arith) c.loop-rule-test.true;
}

pub bounds-level-head : goal.bounds-level-head
bounds-level-head c = (read _ c.requires.range c.rules-rule-items.ensures.value _ (omega arith) c.loop-rule-test.true).head

pub bounds-level-head-then-level-head : goal.bounds-level-head-then-level-head
bounds-level-head-then-level-head c =
    (read _ c.requires.range c.rules-rule-items.ensures.value _ (omega arith) c.loop-rule-test.true).head

pub loop-rule-preserved : goal.loop-rule-preserved
loop-rule-preserved c =
    let p = c.args.policy.now in
    let pre = c.requires in
    let here = front_entry _ p.rules p.rule no_rule _ c.rules-rule-items.ensures.value c.loop-rule-test.true in
    let same = c.asked-need.ensures ∙ ap (asked c.loop-rule.level) here in
    let head = ap (λ (r : Rule). r.head) here in
    elim c.if-level-head.branch [
      | then-level-head w ↦ rw (w.level-is, w.raised-is) (turn_raised p pre.range pre.rise
          c.loop-rule.invariant (omega arith) head same w.if-level-head.true (omega arith))
      | else-level-head w ↦ rw (w.level-is, w.raised-is) (turn_kept p pre.range pre.rise
          c.loop-rule.invariant (omega arith) head same w.if-level-head.false)
    ]

pub rounds-smaller : goal.rounds-smaller
rounds-smaller c = fewer_rounds _ c.loop-rule.invariant c.if-not-raised.false

pub returns : goal.returns
returns c =
    rounds_end _ c.requires.range c.requires.rise (omega (arith, (range _ c.requires.range).rules)) c.loop-rule.invariant c.if-not-raised.true
