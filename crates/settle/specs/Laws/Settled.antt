-- A level is settled once no rule of it adds anything.
use Rattle.std.specs.Prelude.{ℕ, suc, ◌+◌, ◌≤◌, ◌<◌, List, ◌≡◌, get_or}
use Rattle.std.proofs.Common.{sym, subst, add-one, arith}
use Rattle.policy.specs.declared.Policy.{Policy}
use Rattle.policy.specs.declared.Query.{Query}
use Rattle.policy.specs.Questions.{Accepted}
use Rattle.policy.specs.Record.{rule_of}
use Rattle.order.specs.Order.{lev, Ordered}
use Rattle.order.specs.Laws.{stands_at}
use Rattle.settle.specs.Words.{added_of}
use Rattle.settle.specs.Right.{Right, Enables, Enabling}
use Rattle.settle.specs.Laws.Right.{right_level}

-- the places from `from` up to `to` of an order have rules of level n, each with the word of the sets that enable it
pub record Part (p : Policy) (q : Query) (w sets n : ℕ) (order : List ℕ) (from to : ℕ) (words : List ℕ) : Type 0 where
  pub rules : (j : ℕ) → from ≤ j → j < to → get_or order j 0 < p.rules
  pub levels : (j : ℕ) → from ≤ j → j < to → lev p (get_or order j 0) ≡ n
  pub enables : (j : ℕ) → from ≤ j → j < to → Enables p q w sets (get_or order j 0) (get_or words j 0)

-- no rule at these places adds anything
abbrev pub Quiet : Policy → List ℕ → ℕ → ℕ → List ℕ → List ℕ → Type 0
Quiet p order from to words held =
    (j : ℕ) → from ≤ j → j < to → added_of held (get_or words j 0) (rule_of p (get_or order j 0)) ≡ 0

module _ (p : Policy) (q : Query) (ok : Accepted p q) (w sets : ℕ) {order start words : List ℕ} (sorted : Ordered p order start)
    (enables : Enabling p q w sets order words) (n : ℕ) (h : n < 16) where
  -- the places of a level are a part of the order
  pub level_part : Part p q w sets n order (get_or start n 0) (get_or start (n + 1) 0) words
  level_part = rw (add-one n) (record {
    rules = λ j a b. sorted.rules j (omega (arith, sorted.ends (suc n) (omega arith)));
    levels = λ j a b. sorted.levels n j h a b;
    enables = λ j a b. enables.each j (omega (arith, sorted.ends (suc n) (omega arith)));
  })

  -- once none of them adds anything the level is settled
  pub level_settled : {held : List ℕ} → Right p q w sets n held → Quiet p order (get_or start n 0) (get_or start (n + 1) 0) words held
      → Right p q w sets (n + 1) held
  level_settled {held} good quiet = subst (λ (m : ℕ). Right p q w sets m held) (sym (add-one n)) (right_level p q ok w sets good (λ k e l.
      let found = stands_at order (get_or start n 0) (get_or start (suc n) 0) k p.rules (sorted.covers n k h e l) in
      let j : ℕ = found.0 in (
        get_or words j 0,
        subst (λ (x : ℕ). Enables p q w sets x (get_or words j 0)) found.3
            (enables.each j (omega (arith, found.2, sorted.ends (suc n) (omega arith)))),
        subst (λ (x : ℕ). added_of held (get_or words j 0) (rule_of p x) ≡ 0) found.3
            (quiet j found.1 (subst (λ (x : ℕ). j < get_or start x 0) (sym (add-one n)) found.2)),
      )))

pub right_last : {p : Policy} {q : Query} {w sets n m : ℕ} {held : List ℕ} → Right p q w sets n held → n ≡ m → Right p q w sets m held
right_last {p} {q} {w} {sets} {n} {m} {held} r e = subst (λ (m : ℕ). Right p q w sets m held) e r
