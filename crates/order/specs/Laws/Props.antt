-- The facts that a ghost field holds have at most one proof.
use Rattle.std.specs.Prelude.{ℕ, suc, ◌^◌, ◌≤◌, ◌<◌, ◌≡◌, T, length, get_or}
use Rattle.std.proofs.Props.{props}
use mathlib.Core.List.{List, Memᴰ}
use Rattle.base.specs.Every.{some_below}
use Rattle.policy.specs.declared.Policy.{Policy}
use Rattle.policy.specs.declared.Rule.{Rule}
use Rattle.policy.specs.declared.Decisions.{Decisions}
use Rattle.policy.specs.Record.{listed, rule_of, level_of, also_of, weight_of, ifs_of}
use Rattle.policy.specs.Laws.{InRange, ListFits, RuleFits}
use Rattle.order.specs.Order.{stands, lev, Ordered, Used}

pub ListFits-prop : (n : ℕ) (l : Decisions) → IsProp (ListFits n l)
ListFits-prop n l x y =
    let count : IsProp (l.count ≤ 8) = hlevel props in
    let entries : IsProp ((d : ℕ) → Memᴰ d (listed l) → d < n) = hlevel props in
    λ i. record { count = count x.count y.count i; entries = entries x.entries y.entries i }

pub RuleFits-prop : (n m : ℕ) (r : Rule) → IsProp (RuleFits n m r)
RuleFits-prop n m r x y =
    let head : IsProp (r.head < n) = hlevel props in
    let needs : IsProp (r.needs < 2 ^ m) = hlevel props in
    λ i. record {
      head = head x.head y.head i;
      needs = needs x.needs y.needs i;
      ifs = ListFits-prop n r.ifs x.ifs y.ifs i;
      unless = ListFits-prop n r.unless x.unless y.unless i;
    }

pub InRange-prop : (p : Policy) → IsProp (InRange p)
InRange-prop p x y =
    let some_decision : IsProp (1 ≤ p.decisions) = hlevel props in
    let decisions : IsProp (p.decisions ≤ 128) = hlevel props in
    let actions : IsProp (p.actions ≤ 16) = hlevel props in
    let rules : IsProp (p.rules ≤ 256) = hlevel props in
    let level : IsProp ((d : ℕ) → d < p.decisions → level_of p d ≤ 15) = hlevel props in
    let weight : IsProp ((a : ℕ) → a < p.actions → a < length p.action → 1 ≤ weight_of p a) = hlevel props in
    let heavy : IsProp ((a : ℕ) → a < p.actions → weight_of p a ≤ 65535) = hlevel props in
    let also : IsProp ((a : ℕ) → a < p.actions → also_of p a < 2 ^ p.actions) = hlevel props in
    λ i. record {
      some_decision = some_decision x.some_decision y.some_decision i;
      decisions = decisions x.decisions y.decisions i;
      actions = actions x.actions y.actions i;
      rules = rules x.rules y.rules i;
      level = level x.level y.level i;
      weight = weight x.weight y.weight i;
      heavy = heavy x.heavy y.heavy i;
      also = also x.also y.also i;
      rule = λ k h. RuleFits-prop p.decisions p.actions (rule_of p k) (x.rule k h) (y.rule k h) i;
    }

module _ (p : Policy) where
  pub Ordered-prop : (order start : List ℕ) → IsProp (Ordered p order start)
  Ordered-prop order start x y =
      let size : IsProp (length order ≡ 256) = hlevel props in
      let ends : IsProp ((n : ℕ) → n < 17 → get_or start n 0 ≤ p.rules) = hlevel props in
      let rules : IsProp ((j : ℕ) → j < p.rules → get_or order j 0 < p.rules) = hlevel props in
      let levels : IsProp ((n j : ℕ) → n < 16 → get_or start n 0 ≤ j → j < get_or start (suc n) 0 → lev p (get_or order j 0) ≡ n) =
      hlevel props in
      let covers : IsProp ((n k : ℕ) → n < 16 → k < p.rules → lev p k ≡ n
      → T (some_below p.rules (stands order (get_or start n 0) (get_or start (suc n) 0) k))) = hlevel props in
      λ i. record {
        size = size x.size y.size i;
        ends = ends x.ends y.ends i;
        rules = rules x.rules y.rules i;
        levels = levels x.levels y.levels i;
        covers = covers x.covers y.covers i;
      }

  pub Used-prop : (order uses : List ℕ) → IsProp (Used p order uses)
  Used-prop order uses x y =
      let early : IsProp ((j d : ℕ) → j < p.rules → Memᴰ d (ifs_of p (get_or order j 0)) → get_or uses d 0 ≤ j) = hlevel props in
      λ i. record { early = early x.early y.early i }
