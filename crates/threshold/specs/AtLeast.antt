-- Document 02's policy with the most slim sets (F-14): decision by decision, "at least j of the first i actions" (a threshold),
-- i from 1 to 16 and j from 1 to i or 8, whichever is less.
use Rattle.std.specs.Prelude.{ℕ, zero, suc, ◌+◌, ◌-◌, ◌^◌, ◌≤◌, min, cond, List, [], ◌∷◌, ◌++◌, eqb, ltb, set, replicate}
use Rattle.std.specs.List.{fold}
use Rattle.policy.specs.declared.Policy.{Policy}
use Rattle.policy.specs.declared.Query.{Query}
use Rattle.policy.specs.declared.Rule.{Rule}
use Rattle.policy.specs.declared.Action.{Action}
use Rattle.policy.specs.declared.Kind.TheVariants.{Provision}
use Rattle.format.specs.Format.{decisions_of}
use Rattle.format.specs.Entries.{record_of}
use Rattle.reader.specs.declared.Reading.{Reading}
use Rattle.reader.specs.File.{reading_of}

-- there is a decision "at least j of the first i"
pub record There (i j : ℕ) : Type 0 where
  pub actions : i ≤ 16
  pub some : 1 ≤ j
  pub eight : j ≤ 8
  pub fits : j ≤ i

-- how many decisions there are about the first i actions
abbrev pub decisions_about : ℕ → ℕ
decisions_about i = min i 8

-- and about the first 1, 2 .. i actions
unfoldable pub decisions_to : ℕ → ℕ
decisions_to zero = 0
decisions_to (suc i) = decisions_to i + decisions_about (suc i)

-- the number of a decision: they stand by rising i, then rising j from 1
unfoldable pub number : ℕ → ℕ → ℕ
number i j = decisions_to (i - 1) + (j - 1)

-- its rule without the i-th action, which is number i - 1: at least j of the actions before it
unfoldable pub without : ℕ → ℕ → Rule
without i j = record { head = number i j; needs = 0; ifs = decisions_of (number (i - 1) j ∷ []); unless = decisions_of [] }

-- what the rule with the i-th action asks of the actions before it: one fewer, and nothing where j is 1
unfoldable pub fewer : ℕ → ℕ → List ℕ
fewer i j = cond (eqb j 1) [] (number (i - 1) (j - 1) ∷ [])

unfoldable pub having : ℕ → ℕ → Rule
having i j = record { head = number i j; needs = 2 ^ (i - 1); ifs = decisions_of (fewer i j); unless = decisions_of [] }

-- the rules of a decision: the first is there where j is below i
unfoldable pub first_for : ℕ → ℕ → List Rule
first_for i j = cond (ltb j i) (without i j ∷ []) []

unfoldable pub rules_for : ℕ → ℕ → List Rule
rules_for i j = first_for i j ++ (having i j ∷ [])

-- the rules of the decisions about the first i actions, j from 1 to n
unfoldable pub row : ℕ → ℕ → List Rule
row i zero = []
row i (suc n) = row i n ++ rules_for i (suc n)

-- and of those about the first 1, 2 .. n actions
unfoldable pub rows : ℕ → List Rule
rows zero = []
rows (suc n) = rows n ++ row (suc n) (decisions_about (suc n))

-- each action is a provision of weight 1 that does no other
unfoldable pub plain : Action
plain = record { kind = Provision; weight = 1; also = 0 }

-- the policy with a rule, and with some, past its last
abbrev pub with_rule : Policy → Rule → Policy
with_rule p r = record {
  decisions = p.decisions;
  actions = p.actions;
  rules = p.rules + 1;
  level = p.level;
  action = p.action;
  rule = set p.rule p.rules r;
}

abbrev pub with_rules : Policy → List Rule → Policy
with_rules = fold with_rule

-- the policy: 100 decisions at level 0, 16 actions and their rules
unfoldable pub at_least : Policy
at_least = record_of 100 16 (replicate 100 0) (replicate 16 plain) (rows 16)

-- the query wants at least 8 of 16, with nothing done
unfoldable pub eight : Query
eight = record { want = number 16 8; done = 0 }

-- the policy and its one query, as a file states them
unfoldable pub stated : Reading
stated = reading_of at_least (eight ∷ [])
