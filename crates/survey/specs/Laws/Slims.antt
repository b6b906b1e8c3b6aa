-- The survey by words: the sets that clear, and the minimal ones, which are the slim sets.
use Rattle.std.specs.Prelude.{ℕ, ◌+◌, ◌-◌, ◌*◌, ◌/◌, ◌%◌, ◌^◌, ◌≤◌, ◌<◌, Bool, true, false, ◌&&◌, List, ◌≡◌, refl, T, ltb, get_or, length, take}
use Rattle.std.proofs.Math.Bool.{not}
use Rattle.std.proofs.Common.{sym, ◌∙◌, subst, arith, lt-ltb, T_not}
use Rattle.std.proofs.Math.Path.{ap}
use Rattle.std.proofs.lemmas.List.{get_or-take, length-take}
use Rattle.std.proofs.Math.Dec.{ltb→lt}
use Rattle.base.specs.Laws.Tests.{is_false, passes, some_below_same}
use Rattle.mask.specs.Mask.{has, contains}
use Rattle.mask.specs.Family.{among, minimal, lightest}
use Rattle.mask.specs.Laws.{has_none}
use Rattle.mask.specs.Laws.Packed.{packed_bit}
use Rattle.mask.specs.Laws.Lightest.{lightest_idle, lightest_same}
use Rattle.mask.specs.Laws.Among.{among_idle, among_same}
use Rattle.mask.specs.Laws.Minimal.{taken_within}
use Rattle.policy.specs.declared.Policy.{Policy}
use Rattle.policy.specs.declared.Query.{Query}
use Rattle.policy.specs.Questions.{Accepted}
use Rattle.model.specs.Clears.{clears}
use Rattle.weight.specs.Cost.{cost_of}
use Rattle.weight.specs.Slim.{slim, slim_sets}
use Rattle.columns.specs.Sets.{set_at, all_sets}
use Rattle.columns.specs.Laws.Columns.{all_set}
use Rattle.words.specs.Models.{word_of}
use Rattle.words.specs.Laws.Wanted.{wanted_bit}
use Rattle.covers.specs.Covers.{word_count, Marks, Table, Members, marked_in}
use Rattle.covers.specs.Laws.Marks.{table_marked}
use Rattle.survey.specs.Survey.{family}

-- a table marks the sets of its words
pub table_marks : (table : List ℕ) (w : ℕ) → Marks (marked_in table) w (get_or table w 0)
unfolding marked_in
table_marks table w = record {
  bits = λ i s.
      let word : w ≡ (64 * w + i) / 64 = omega arith in
      let place : i ≡ (64 * w + i) % 64 = omega arith in
      ap (λ (v : ℕ). has (get_or table v 0) i) word ∙ ap (has (get_or table ((64 * w + i) / 64) 0)) place;
}

-- a word of 0 marks none of its sets
pub marks_zero : {takes : ℕ → Bool} {w word : ℕ} → Marks takes w word → word ≡ 0
    → (s : ℕ) → 64 * w ≤ s → s < 64 * w + 64 → takes s ≡ false
marks_zero {takes} {w} marks e s h l =
    let here : set_at w (s - 64 * w) ≡ s = omega arith in
    ap takes (sym here) ∙ sym (marks.bits (s - 64 * w) (omega arith)) ∙ ap (λ (x : ℕ). has x (s - 64 * w)) e
    ∙ is_false (has 0 (s - 64 * w)) (has_none (s - 64 * w))

module _ (p : Policy) (q : Query) where
  -- a set of the policy's actions is in the family where it clears
  family_in : (s : ℕ) → s < 2 ^ p.actions → family p q s ≡ clears p q s
  unfolding family
  family_in s h = ap (λ (b : Bool). b && clears p q s) (lt-ltb s (2 ^ p.actions) h)

  -- the minimal members of the family are the slim sets
  slim_in : (s : ℕ) → s < 2 ^ p.actions → minimal (family p q) s ≡ slim p q s
  unfolding minimal taken_within slim
  slim_in s h = ap (λ (b : Bool). b && not (taken_within (family p q) s s)) (family_in s h)
      ∙ ap (λ (b : Bool). clears p q s && not b) (some_below_same s (λ t. contains s t && family p q t) (λ t. contains s t && clears p q t)
      (λ t k. ap (λ (b : Bool). contains s t && b) (family_in t (omega arith))))

  slim_past : (s : ℕ) → 2 ^ p.actions ≤ s → minimal (family p q) s ≡ false
  unfolding minimal taken_within family
  slim_past s h = ap (λ (b : Bool). (b && clears p q s) && not (taken_within (family p q) s s))
      (is_false (ltb s (2 ^ p.actions)) (λ t. omega (arith, ltb→lt s (2 ^ p.actions) t)))

  module _ (n : ℕ) (past : 2 ^ p.actions ≤ n) where
    -- up to any number past the last
    pub slims_all : among (minimal (family p q)) n ≡ slim_sets p q
    unfolding slim_sets
    slims_all = among_idle (minimal (family p q)) (2 ^ p.actions) n past (λ s h l. slim_past s h)
        ∙ among_same (minimal (family p q)) (slim p q) (2 ^ p.actions) slim_in

    pub lightest_all : lightest (minimal (family p q)) (cost_of p) n ≡ lightest (slim p q) (cost_of p) (2 ^ p.actions)
    lightest_all = lightest_idle (minimal (family p q)) (cost_of p) (2 ^ p.actions) n past (λ s h l. slim_past s h)
        ∙ lightest_same (minimal (family p q)) (slim p q) (cost_of p) (cost_of p) (2 ^ p.actions) slim_in (λ s. refl)

  -- and so are the sets that the table of the minimal members marks
  pub slims_marked : (table : List ℕ) → Table (minimal (family p q)) (word_count p.actions) table
      → among (marked_in table) (64 * word_count p.actions) ≡ slim_sets p q
  slims_marked table so =
      among_same (marked_in table) (minimal (family p q)) (64 * word_count p.actions) (λ s h. table_marked so s h)
      ∙ slims_all (64 * word_count p.actions) (omega arith)

  -- its words alone mark the same
  pub words_marked : (table words : List ℕ) → Table (minimal (family p q)) (word_count p.actions) table → word_count p.actions ≤ 1024
      → words ≡ take (word_count p.actions) table → among (marked_in words) (64 * length words) ≡ slim_sets p q
  unfolding marked_in
  words_marked table words so few front =
      let n = word_count p.actions in
      let count : length words ≡ n = omega (arith, so.size, ap length front, length-take n table) in
      rw (count, front) (
      among_same (marked_in (take n table)) (marked_in table) (64 * n) (λ s h.
      let within : s / 64 < n = omega arith in ap (λ (x : ℕ). has x (s % 64)) (get_or-take n table (s / 64) 0 within)) ∙ slims_marked table so
      )

  -- ---- the members among the sets of a word
  -- where all are covered without one of their upper actions, none need be known
  pub members_none : (w low word : ℕ) → low ≡ all_sets → word ≡ 0 → Members (family p q) w low word
  members_none w low word l e = record {
    only = λ i s t. absurd (has_none i (subst (λ (x : ℕ). T (has x i)) e t));
    all = λ i s t apart. absurd (T_not (has low i) apart
        (passes (has low i) (ap (λ (x : ℕ). has x i) (l ∙ all_set) ∙ packed_bit 64 (λ j. true) i s)));
  }

  module _ (ok : Accepted p q) where
    -- the word of the decision wanted has the family's
    family_bit : (w i : ℕ) → i < 64 → has (word_of p q w q.want) i ≡ family p q (set_at w i)
    unfolding family
    family_bit w i k = wanted_bit p q ok w i k

    pub members_wanted : (w low word : ℕ) → word ≡ word_of p q w q.want → Members (family p q) w low word
    members_wanted w low word e = record {
      only = λ i s t. subst T (ap (λ (x : ℕ). has x i) e ∙ family_bit w i s) t;
      all = λ i s t apart. subst T (sym (ap (λ (x : ℕ). has x i) e ∙ family_bit w i s)) t;
    }
