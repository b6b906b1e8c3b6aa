-- A reading that lines can state has zeros past each count, and a reading that has is the one with its entries cleared.
use Rattle.std.specs.Prelude.{ℕ, ◌≤◌, ◌<◌, ◌≡◌, List, map, T, leb, take}
use Rattle.std.proofs.Common.{arith, ◌∙◌}
use Rattle.std.proofs.Math.Path.{sym, ap}
use Rattle.std.proofs.Math.ListN.{length, get_or}
use Rattle.std.proofs.lemmas.List.{length-map}
use Rattle.std.proofs.Math.Seq.{length-take-le}
use Rattle.std.proofs.Math.Facts.{leb_yes}
use Rattle.std.specs.List.{list_all}
use Rattle.base.specs.Lists.{filled}
use Rattle.base.specs.Laws.All.{all_of, map_same}
use Rattle.base.specs.Laws.Lists.{filled_length, filled_past, filled_of}
use Rattle.base.specs.Laws.Tests.{passes, and_left, and_right, get_or_in}
use Rattle.policy.specs.declared.Policy.{Policy}
use Rattle.policy.specs.declared.Decisions.{Decisions}
use Rattle.policy.specs.Record.{listed, levels_of, actions_of, rules_of, rule_of, no_action, no_rule, zero_query, Sized}
use Rattle.policy.specs.Questions.{is_decision, in_range, queries_in_range}
use Rattle.policy.specs.Laws.{InRange, in_range_lem}
use Rattle.format.specs.Format.{is_list, decisions_of}
use Rattle.format.specs.Entries.{zero_rule, record_of}
use Rattle.format.specs.Laws.Cleared.{cleared_rule, cleared}
use Rattle.format.specs.Laws.Lists.{ReadableList}
use Rattle.format.specs.Laws.Lists.{Clear as IsClear}
use Rattle.format.specs.Laws.Records.{ReadableRule}
use Rattle.format.specs.Laws.Policies.{ReadableEntries}
use Rattle.reader.specs.declared.Reading.{Reading}
use Rattle.reader.specs.File.{reading_of}
use Rattle.reader.specs.Laws.Cleared.{cleared_reading}
use Rattle.reader.specs.Claim.{ClearList, Clear, DraftStates}
use Rattle.reader.specs.Laws.Readings.{queries_of, ReadableLines}
use Rattle.reader.specs.Laws.Back.{queries_few}

-- a list that a line can state
module _ (n : ℕ) (l : Decisions) (fits : ReadableList n (listed l)) (clear : IsClear l) where
  list_few : length (listed l) ≤ 8
  unfolding ReadableList is_list
  list_few = leb_yes (and_left (leb (length (listed l)) 8) (list_all (is_decision n) (listed l)) fits.0)

  list_full : length l.at ≡ 8
  unfolding IsClear decisions_of
  list_full = ap (λ (x : Decisions). length x.at) clear ∙ filled_length 8 0 (listed l) list_few

  list_clear : ClearList l
  unfolding IsClear decisions_of
  list_clear i h = ap (λ (x : Decisions). get_or x.at i 0) clear
      ∙ filled_past 8 0 (listed l) i (omega (arith, ap (λ (x : Decisions). x.count) clear))

-- a policy that lines can state
module _ (p : Policy) (few_decisions : p.decisions ≤ 128) (few_actions : p.actions ≤ 16)
    (e : ReadableEntries p.decisions p.actions p) where
  rules_full : length p.rule ≡ 256
  unfolding record_of
  rules_full = ap (λ (x : Policy). length x.rule) e.clear
      ∙ filled_length 256 zero_rule (rules_of p) (omega (arith, e.rule_count, e.few_rules))

  rule_states : (k : ℕ) → k < p.rules → ReadableRule p.decisions p.actions (rule_of p k)
  rule_states k h = e.rule (rule_of p k) (get_or_in p.rule no_rule p.rules k h (omega (arith, rules_full, e.few_rules)))

  policy_sized : Sized p
  unfolding record_of
  policy_sized = record {
    levels = ap (λ (x : Policy). length x.level) e.clear ∙ filled_length 128 0 (levels_of p) (omega (arith, e.level_count));
    actions = ap (λ (x : Policy). length x.action) e.clear
        ∙ filled_length 16 no_action (actions_of p) (omega (arith, e.action_count));
    rules = rules_full;
    lists = λ k h. let r = rule_states k h in (
      list_full p.decisions (rule_of p k).ifs r.ifs_fit r.ifs_clear,
      list_full p.decisions (rule_of p k).unless r.unless_fit r.unless_clear,
    );
  }

pub reading_clear : (r : Reading) → ReadableLines r → Clear r
unfolding record_of reading_of
reading_clear r f =
    let p = r.policy in
    let e = f.policy.entries in
    let states = rule_states p f.policy.few_decisions f.policy.few_actions e in
    record {
      policy = policy_sized p f.policy.few_decisions f.policy.few_actions e;
      places = ap (λ (x : Reading). length x.queries.at) f.clear
          ∙ filled_length 64 zero_query (queries_of r) (omega (arith, f.places, f.few));
      levels = λ d h. ap (λ (x : Policy). get_or x.level d 0) e.clear
          ∙ filled_past 128 0 (levels_of p) d (omega (arith, e.level_count));
      actions = λ a h. ap (λ (x : Policy). get_or x.action a no_action) e.clear
          ∙ filled_past 16 no_action (actions_of p) a (omega (arith, e.action_count));
      rules = λ k h. ap (λ (x : Policy). get_or x.rule k zero_rule) e.clear
          ∙ filled_past 256 zero_rule (rules_of p) k (omega (arith, e.rule_count));
      ifs = λ k h. list_clear p.decisions (rule_of p k).ifs (states k h).ifs_fit (states k h).ifs_clear;
      unless = λ k h. list_clear p.decisions (rule_of p k).unless (states k h).unless_fit (states k h).unless_clear;
      queries = λ i h. ap (λ (x : Reading). get_or x.queries.at i zero_query) f.clear
          ∙ filled_past 64 zero_query (queries_of r) i (omega (arith, f.places));
    }

-- entries with the filler past their count are those below it, filled up to as many places
refilled : {A : Type 0} (k n : ℕ) (z : A) (l : List A) → length l ≡ k → ((i : ℕ) → n ≤ i → get_or l i z ≡ z)
    → l ≡ filled k z (take n l)
refilled k n z l full past = filled_of n z l past ∙ ap (λ m. filled m z (take n l)) full

list_same : (l : Decisions) → l.count ≤ 8 → length l.at ≡ 8 → ClearList l → decisions_of (listed l) ≡ l
unfolding decisions_of
list_same l few full past = λ i. record {
  count = length-take-le l.count l.at (omega arith) i;
  at = sym (refilled 8 l.count 0 l.at full past) i;
}

module _ {s : List ℕ} {r : Reading} (stated : DraftStates s r) where
  -- question 3 is answered yes to the policy and to the queries
  pub stated_range : T (in_range r.policy)
  stated_range = and_left (in_range r.policy) (queries_in_range r.policy r.queries) (passes _ stated.range)

  pub stated_queries : T (queries_in_range r.policy r.queries)
  stated_queries = and_right (in_range r.policy) (queries_in_range r.policy r.queries) (passes _ stated.range)

  range : InRange r.policy
  range = in_range_lem r.policy stated_range

  rule_same : (k : ℕ) → k < r.policy.rules → cleared_rule (rule_of r.policy k) ≡ rule_of r.policy k
  unfolding cleared_rule
  rule_same k h =
      let x = rule_of r.policy k in
      let fits = range.rule k h in
      let sized = stated.clear.policy.lists k h in
      let ifs = list_same x.ifs fits.ifs.count sized.0 (stated.clear.ifs k h) in
      let unless = list_same x.unless fits.unless.count sized.1 (stated.clear.unless k h) in
      λ i. record { head = x.head; needs = x.needs; ifs = ifs i; unless = unless i }

  rules_same : map cleared_rule (rules_of r.policy) ≡ rules_of r.policy
  rules_same = map_same cleared_rule (rules_of r.policy)
      (all_of (λ x. cleared_rule x ≡ x) no_rule r.policy.rule r.policy.rules rule_same)

  policy_same : r.policy ≡ cleared r.policy
  unfolding cleared record_of
  policy_same =
      let p = r.policy in
      let c = stated.clear in
      let count = length-take-le p.rules p.rule (omega (arith, c.policy.rules, range.rules)) in
      let rule = refilled 256 p.rules zero_rule p.rule c.policy.rules c.rules in
      λ i. record {
        decisions = p.decisions;
        actions = p.actions;
        rules = sym (length-map (rules_of p) cleared_rule ∙ count) i;
        level = refilled 128 p.decisions 0 p.level c.policy.levels c.levels i;
        action = refilled 16 p.actions no_action p.action c.policy.actions c.actions i;
        rule = (rule ∙ ap (λ rs. filled 256 zero_rule rs) (sym rules_same)) i;
      }

  pub clear_same : r ≡ cleared_reading r.policy r.queries.count r.queries.at
  unfolding cleared_reading reading_of
  clear_same =
      let qs = r.queries in
      let few = queries_few r.policy qs stated.clear.places stated_queries in
      let count = length-take-le qs.count qs.at (omega (arith, stated.clear.places)) in
      let at = refilled 64 qs.count zero_query qs.at stated.clear.places stated.clear.queries in
      λ i. record { refusal = stated.none i; policy = policy_same i; queries = record { count = sym count i; at = at i } }
