-- The words of marks: where the words below are right, so is the next.
use Rattle.std.specs.Prelude.{ℕ, ◌+◌, ◌-◌, ◌*◌, ◌/◌, ◌%◌, ◌^◌, ◌<◌, Bool, ◌&&◌, ◌||◌, List, ◌≡◌, T, length, get_or, set}
use Rattle.std.proofs.Common.{◌≤◌, inl, inr, ⊎_elim, sym, ◌∙◌, ap, subst, arith, pow_mono, length-set, get_or-set_same, get_or-set_other}
use Rattle.std.proofs.Math.Decide.{ℕ_discrete}
use Rattle.std.specs.Int.Bits.{bit_or}
use Rattle.base.specs.Every.{some_below}
use Rattle.base.specs.Laws.Tests.{same, is_false, either, and_make, and_left, and_right, and_same, or_left, or_right, or_cases}
use Rattle.base.specs.Laws.Tests.{some_below_at, some_below_make, some_below_same}
use Rattle.mask.specs.Mask.{has, ◌⊆◌}
use Rattle.mask.specs.Laws.{has_or, has_none, has→<, without_⊆, without_<, proper_⊆_without}
use Rattle.mask.specs.Laws.Minimal.{covered, covered_at, covered_make}
use Rattle.columns.specs.Laws.Picked.{picked_joins}
use Rattle.policy.specs.declared.Policy.{Policy}
use Rattle.policy.specs.declared.Query.{Query}
use Rattle.policy.specs.Questions.{Accepted}
use Rattle.policy.specs.Laws.{accepted_range}
use Rattle.covers.specs.Covers.{word_count, Marks, Table, Members, marked_in, closed_of, low_of, covered_of}
use Rattle.covers.specs.Laws.Closed.{closed_at, closed_make}
use Rattle.covers.specs.Laws.Places.{subset_word, subset_place, subset_make}

-- what a bit of the joined words says
low_bit : (table : List ℕ) (w i : ℕ) → has (low_of table w) i ≡ some_below 10 (λ b. has w b && has (get_or table (w - 2 ^ b) 0) i)
unfolding low_of
low_bit table w i = picked_joins (has w) (λ b. get_or table (w - 2 ^ b) 0) 0 i 10
    ∙ ap (λ (x : Bool). x || some_below 10 (λ b. has w b && has (get_or table (w - 2 ^ b) 0) i)) (is_false (has 0 i) (has_none i))

module _ (takes : ℕ → Bool) (table : List ℕ) (w : ℕ) (small : w < 1024)
    (right : (v : ℕ) → v < w → Marks (covered takes) v (get_or table v 0)) where
  -- the sets less one of their upper actions
  pub low_is : (i : ℕ) → i < 64 → has (low_of table w) i ≡ some_below 10 (λ b. has w b && covered takes (64 * (w - 2 ^ b) + i))
  low_is i s = low_bit table w i ∙ some_below_same 10 (λ b. has w b && has (get_or table (w - 2 ^ b) 0) i)
      (λ b. has w b && covered takes (64 * (w - 2 ^ b) + i)) (λ b h. and_same (has w b) (has (get_or table (w - 2 ^ b) 0) i)
      (covered takes (64 * (w - 2 ^ b) + i)) (λ t. (right (w - 2 ^ b) (without_< w b t)).bits i s))

  module _ (members : ℕ) (taken : Members takes w (low_of table w) members) where
    there : (i : ℕ) → i < 64 → T (has (closed_of (bit_or members (low_of table w)) 6) i) → T (covered takes (64 * w + i))
    there i s t =
        let r = closed_at (bit_or members (low_of table w)) i s t in
        let j = r.0 in
        ⊎_elim {C = T (covered takes (64 * w + i))}
        (λ (u : T (has members j)). covered_make takes (64 * w + i) (64 * w + j)
        (subset_make w w j i r.1 s (λ b k. k) r.2) (taken.only j r.1 u))
        (λ (u : T (has (low_of table w) j)).
        let one = some_below_at (λ b. has w b && covered takes (64 * (w - 2 ^ b) + j)) 10 (subst T (low_is j r.1) u) in
        let b = one.0 in
        let held : T (has w b) = and_left (has w b) (covered takes (64 * (w - 2 ^ b) + j)) one.2 in
        let under = covered_at takes (64 * (w - 2 ^ b) + j) (and_right (has w b) (covered takes (64 * (w - 2 ^ b) + j)) one.2) in
        covered_make takes (64 * w + i) under.0
        (λ k m. subset_make (w - 2 ^ b) w j i r.1 s (without_⊆ w b held) r.2 k (under.1 k m)) under.2)
        (or_cases (has members j) (has (low_of table w) j) (subst T (has_or members (low_of table w) j) r.3))

    -- a taken set of a subset's word is marked at its place
    place : (t : ℕ) → (t / 64) ⊆ w → T (takes t) → T (has (bit_or members (low_of table w)) (t % 64))
    place t sub k =
        let near : t % 64 < 64 = omega arith in
        let parts : t ≡ 64 * (t / 64) + t % 64 = omega arith in
        subst T (sym (has_or members (low_of table w) (t % 64))) (elim (either (has (low_of table w) (t % 64))) [
          | inl u ↦ or_right (has members (t % 64)) (has (low_of table w) (t % 64)) u
          | inr u ↦ elim (ℕ_discrete (t / 64) w) [
            | yes e ↦ or_left (has members (t % 64)) (has (low_of table w) (t % 64)) (taken.all (t % 64) near
                (subst (λ (x : ℕ). T (takes x)) (parts ∙ ap (λ (v : ℕ). 64 * v + t % 64) e) k) u)
            | no ne ↦
                let one = proper_⊆_without (t / 64) w sub ne in
                let b = one.0 in
                or_right (has members (t % 64)) (has (low_of table w) (t % 64)) (subst T (sym (low_is (t % 64) near))
                (some_below_make (λ b. has w b && covered takes (64 * (w - 2 ^ b) + t % 64)) 10 b (has→< w b 10 one.1 small)
                (and_make (has w b) (covered takes (64 * (w - 2 ^ b) + t % 64)) one.1 (covered_make takes (64 * (w - 2 ^ b) + t % 64) t
                (λ m h. subset_make (t / 64) (w - 2 ^ b) (t % 64) (t % 64) near near one.2 (λ n g. g) m
                (subst (λ (x : ℕ). T (has x m)) parts h)) k))))
          ]
        ])

    back : (i : ℕ) → i < 64 → T (covered takes (64 * w + i)) → T (has (closed_of (bit_or members (low_of table w)) 6) i)
    back i s t =
        let one = covered_at takes (64 * w + i) t in
        closed_make (bit_or members (low_of table w)) i (one.0 % 64) s (subset_place one.0 w i one.1)
        (place one.0 (subset_word one.0 w i s one.1) one.2)

    -- the next word is right
    pub marks_next : Marks (covered takes) w (covered_of members (low_of table w))
    marks_next = record {
      bits = λ i s. same (has (closed_of (bit_or members (low_of table w)) 6) i) (covered takes (64 * w + i)) (there i s) (back i s);
    }

-- ---- a table that is filled from the first word on
pub table_none : {test : ℕ → Bool} {table : List ℕ} → length table ≡ 1024 → Table test 0 table
table_none e = record { size = e; right = λ v h. absurd (omega arith) }

pub table_more : {test : ℕ → Bool} {n word : ℕ} {table : List ℕ} → Table test n table → n < 1024 → Marks test n word
    → Table test (n + 1) (set table n word)
table_more {test} {n} {word} {table} so h marks = record {
  size = length-set table n word ∙ so.size;
  right = λ v k. elim (ℕ_discrete v n) [
    | yes e ↦
        let here : get_or (set table n word) v 0 ≡ word
        = ap (λ (x : ℕ). get_or (set table n word) x 0) e ∙ get_or-set_same table n word 0 (omega (arith, so.size)) in
        record { bits = λ i s. ap (λ (x : ℕ). has x i) here ∙ marks.bits i s ∙ ap (λ (x : ℕ). test (64 * x + i)) (sym e) }
    | no e ↦ record { bits = λ i s. ap (λ (x : ℕ). has x i) (get_or-set_other table n v word 0 e) ∙ (so.right v (omega arith)).bits i s }
  ];
}

-- the next word, of the sets with a subset in the family
pub table_next : {takes : ℕ → Bool} {n low members next : ℕ} {table : List ℕ} → Table (covered takes) n table → n < 1024
    → low ≡ low_of table n → Members takes n low members → next ≡ covered_of members low → Table (covered takes) (n + 1) (set table n next)
table_next {takes} {n} {low} {members} {next} {table} so h l taken e = table_more so h
    (subst (Marks (covered takes) n) (sym (e ∙ ap (covered_of members) l))
    (marks_next takes table n h so.right members (subst (λ (x : ℕ). Members takes n x members) l taken)))

-- what the table says of a set
pub table_marked : {test : ℕ → Bool} {n : ℕ} {table : List ℕ} → Table test n table → (s : ℕ) → s < 64 * n
    → marked_in table s ≡ test s
unfolding marked_in
table_marked {test} so s h =
    let whole : 64 * (s / 64) + s % 64 ≡ s = omega arith in
    (so.right (s / 64) (omega arith)).bits (s % 64) (omega arith) ∙ ap test whole

-- ---- the sets of a policy that a query is put to have no more than 1,024 words
pub words_few : (p : Policy) (q : Query) → Accepted p q → word_count p.actions ≤ 1024
words_few p q ok = omega (arith, pow_mono (accepted_range p q ok).actions)
