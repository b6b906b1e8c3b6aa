-- The longest file: no text of a record is longer than 27,294 bytes.
use Rattle.std.specs.Prelude.{ℕ, ◌^◌, ◌≤◌, ◌<◌, ◌≡◌, refl, List, length, take}
use native.Mathlib.Omega.{arith}
use Rattle.std.proofs.Common.{length-append, pow_mono}
use Rattle.base.specs.Laws.All.{All}
use Rattle.policy.specs.declared.Policy.{Policy}
use Rattle.policy.specs.declared.Rule.{Rule}
use Rattle.policy.specs.declared.Query.{Query}
use Rattle.policy.specs.declared.Action.{Action}
use Rattle.policy.specs.declared.Kind.{Kind}
use Rattle.policy.specs.declared.Kind.TheVariants.{Provision, Obligation}
use Rattle.policy.specs.Record.{listed, levels_of, actions_of, rules_of}
use Rattle.format.specs.Bounds.{longest_file}
use Rattle.format.specs.Text.{decimal}
use Rattle.format.specs.Written.{letter_of, commas, level_text, action_text, rule_text, query_text, entries_text, file_of}
use Rattle.format.specs.Laws.Lists.{list_parts, ReadableList}
use Rattle.format.specs.Laws.Lengths.{decimal_length, line_length, each_length, commas_length}
use Rattle.format.specs.Laws.Records.{ReadableAction, ReadableRule, ReadableQuery}
use Rattle.format.specs.Laws.Policies.{ReadablePolicy}

-- a list of at most 8 of them
list_length : (n : ℕ) (ds : List ℕ) → n ≤ 128 → ReadableList n ds → length (commas ds) ≤ 31
unfolding ReadableList
list_length n ds h f =
    let parts = list_parts n ds f.0 in
    omega (arith, parts.0, commas_length 3 ds (λ d m. decimal_length 2 d (omega (arith, parts.1 d m))))

-- the texts of a kind, a level, an action, a rule and a query
letter_length : (k : Kind) → length (letter_of k) ≡ 1
unfolding letter_of
letter_length Provision = refl
letter_length Obligation = refl

level_length : (l : ℕ) → l ≤ 15 → length (level_text l) ≤ 9
unfolding level_text
level_length l h = rw line_length (omega (arith, decimal_length 1 l (omega arith)))

module _ (n m : ℕ) (few : n ≤ 128) (h : m ≤ 16) where
  -- a mask has at most five digits
  mask_length : (x : ℕ) → x < 2 ^ m → length (decimal x) ≤ 5
  mask_length x less = decimal_length 4 x (omega (arith, pow_mono h))

  action_length : (a : Action) → ReadableAction m a → length (action_text a) ≤ 31
  unfolding action_text
  action_length a f =
      simp (length-append, line_length) (omega (
        arith,
        letter_length a.kind,
        decimal_length 4 a.weight (omega (arith, f.heavy)),
        mask_length a.also f.mask,
      ))

  rule_length : (r : Rule) → ReadableRule n m r → length (rule_text r) ≤ 95
  unfolding rule_text
  rule_length r f =
      simp (length-append, line_length) (omega (
        arith,
        decimal_length 2 r.head (omega (arith, f.headed)),
        mask_length r.needs f.mask,
        list_length n (listed r.ifs) few f.ifs_fit,
        list_length n (listed r.unless) few f.unless_fit,
      ))

  query_length : (q : Query) → ReadableQuery n m q → length (query_text q) ≤ 20
  unfolding query_text
  query_length q f =
      simp (length-append, line_length) (omega (
        arith,
        decimal_length 2 q.want (omega (arith, f.wanted)),
        mask_length q.done f.mask,
      ))

-- the longest file
pub file_length : (p : Policy) (count : ℕ) (qs : List Query) → ReadablePolicy p → count ≤ 64 → length (take count qs) ≡ count
    → All (ReadableQuery p.decisions p.actions) (take count qs) → length (file_of p count qs) ≤ longest_file
unfolding file_of entries_text
file_length p count qs f few-queries places queries =
    let e = f.entries in
    let n = p.decisions in
    let m = p.actions in
    let few = f.few_decisions in
    let masks = f.few_actions in
    simp (length-append, line_length) (omega (
      arith,
      few,
      masks,
      e.few_rules,
      e.level_count,
      e.action_count,
      e.rule_count,
      places,
      decimal_length 2 n (omega arith),
      decimal_length 1 m (omega arith),
      each_length level_text 9 (levels_of p) (λ l m. level_length l (e.levels l m)),
      each_length action_text 31 (actions_of p) (λ a k. action_length n m few masks a (e.action a k)),
      decimal_length 2 p.rules (omega (arith, e.few_rules)),
      each_length rule_text 95 (rules_of p) (λ r k. rule_length n m few masks r (e.rule r k)),
      decimal_length 1 count (omega (arith, few-queries)),
      each_length query_text 20 (take count qs) (λ q k. query_length n m few masks q (queries q k)),
    ))
