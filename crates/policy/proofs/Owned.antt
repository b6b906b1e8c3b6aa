-- What owning a policy or its queries tells of them: arrays are as long as the structs declare, and weights have 16 bits.
use Prim.Native.Nat.{ℕ, zero, suc, ◌≤◌, ◌<◌}
use mathlib.Core.List.{List, [], ◌∷◌, map, map-id}
use mathlib.Core.Path.{◌≡◌}
use native.Mathlib.Omega.{arith}
use borrow.Author.Rules.{rules}
use base.Fml.{Fml}
use denote.Array.{Array, each}
use denote.Laws.{Is}
use denote.Shadow.{shadow}
use lib.ListN.{length, get_or}
use mir.Val.{Val}
use Rattle.policy.specs.declared.Policy.{Policy}
use Rattle.policy.specs.declared.Rule.{Rule}
use Rattle.policy.specs.declared.Action.{Action}
use Rattle.policy.specs.declared.Queries.{Queries}
use Rattle.policy.specs.Record.{no_rule, no_action, Eights, Sized}
use Rattle.policy.specs.contracts.Policy as policy
use Rattle.policy.specs.contracts.Action as action
use Rattle.policy.specs.contracts.Rule as rule
use Rattle.policy.specs.contracts.Queries as queries

-- what owning one thing tells of it, owning a list of them tells of each
module _ {X : Type 0} (D : Type 0) (own : D → List Val → Fml) (into : X → D) (P : X → Type 0) (none : X) where
  each_owned : ((x : X) (vs : List Val) → shadow (own (into x) vs) → P x) → (l : List X) (us : List Val)
      → shadow (each D own (map into l) us) → (k : ℕ) → k < length l → P (get_or l k none)
  each_owned one [] us owned k less = absurd (omega arith)
  each_owned one (x ∷ l) [] owned k less = absurd owned
  each_owned one (x ∷ l) (u ∷ us) owned zero less = one x (u ∷ []) owned.0
  each_owned one (x ∷ l) (u ∷ us) owned (suc k) less = each_owned one l us owned.1 k (omega arith)

-- a rule's arrays
rule_owned : (r : Rule) (vs : List Val) → shadow ((rule.the_row).own_val r vs) → Eights r
rule_owned r vs own = (search rules, search rules)

-- a weight has 16 bits
weight_owned : (a : Action) (vs : List Val) → shadow ((action.the_row).own_val a vs) → a.weight ≤ 65535
weight_owned a vs own = let fits : a.weight < 65536 = search rules in omega arith

-- and so has each weight of an array of 16 actions
pub weights_owned : (l : List Action) (vs : List Val) → Is (Array action.the_row 16) l vs
    → (k : ℕ) → k < 16 → (get_or l k no_action).weight ≤ 65535
weights_owned l vs own k less =
    let all : shadow (each Action (action.the_row).own_val (map (λ a. a) l) own.0) = rw (map-id l) own.1.1 in
    each_owned Action (action.the_row).own_val (λ a. a) (λ a. a.weight ≤ 65535) no_action weight_owned l own.0 all k
    (omega (arith, own.1.0.1))

-- the lengths of all arrays of a policy that has at most 256 rules
pub policy_owned : (p : Policy) (vs : List Val) → shadow ((policy.the_row).own_val p vs) → p.rules ≤ 256 → Sized p
policy_owned p vs own few =
    let rules = own.1.1.1.1.1.1.1.0 in
    let count : length p.rule ≡ 256 = rules.1.0.1 in
    let all : shadow (each Rule (rule.the_row).own_val (map (λ r. r) p.rule) rules.0) = rw (map-id p.rule) rules.1.1 in
    let eights = each_owned Rule (rule.the_row).own_val (λ r. r) Eights no_rule rule_owned p.rule rules.0 all in
    record {
      levels = search rules;
      actions = own.1.1.1.1.1.1.0.1.0.1;
      rules = count;
      lists = λ k less. eights k (omega arith);
    }

-- the length of an array of queries
pub queries_owned : (qs : Queries) (vs : List Val) → shadow ((queries.the_row).own_val qs vs) → length qs.at ≡ 64
queries_owned qs vs own = own.1.1.1.0.1.0.1
