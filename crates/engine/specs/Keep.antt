-- What not to touch, as document 02 has it (F-10): the keep-off mask that Choose gives beside the best set.
use Rattle.std.specs.Prelude.{ℕ, ◌<◌, ◌≡◌, Some, Ok}
use Rattle.policy.specs.declared.Policy.{Policy}
use Rattle.policy.specs.declared.Query.{Query}
use Rattle.policy.specs.Record.{rule_of}
use Rattle.engine.specs.declared.Choice.{Choice}
use Rattle.engine.specs.Sets.{Enough, Best, BestKeep}
use Rattle.engine.specs.Calls.{choose_of, keep_for}

-- no rule has an unless entry
abbrev pub NoUnless : Policy → Type 0
NoUnless p = (k : ℕ) → k < p.rules → (rule_of p k).unless.count ≡ 0

-- F-10: what holds for every accepted policy and query
pub record NotToTouch (p : Policy) (q : Query) : Type 0 where
  -- Choose gives the best keep-off mask of the best set
  pub chosen : (c : Choice) → choose_of p q ≡ Ok (Some c) → Best p q c.mask × BestKeep p q c.mask c.keep
  -- there is always one, beside every enough set and not only the best, and not two
  pub found : (s : ℕ) → Enough p q s → BestKeep p q s (keep_for p q s)
  pub only : (s k : ℕ) → Enough p q s → BestKeep p q s k → k ≡ keep_for p q s
  -- it is 0 where no rule has an unless entry
  pub none : NoUnless p → (c : Choice) → choose_of p q ≡ Ok (Some c) → c.keep ≡ 0
