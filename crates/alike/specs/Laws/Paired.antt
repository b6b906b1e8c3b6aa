-- Lists that are tested place by place, and the entries of a record so: the tests pass just where the records agree below their
-- counts.
use Rattle.std.specs.Prelude.{ℕ, Bool, ◌↔◌, T, eqb}
use mathlib.Core.List.{List, [], ◌∷◌, map}
use Rattle.std.specs.Bool.{Decides}
use Rattle.std.specs.Cmp.{unsigned_Decides}
use Rattle.std.specs.Cmp.Lexicographic.{pointwise, bytes_decides}
use Rattle.std.proofs.Math.Path.{◌≡◌, refl}
use Rattle.std.proofs.Common.{ap, arith}
use denote.Enum.Bare.{same_true, true_same}
use Rattle.base.specs.Laws.Tests.{is_true, passes, and_make, and_left, and_right, parts}
use Rattle.policy.specs.contracts.Kind.{the_type}
use Rattle.policy.specs.declared.Rule.{Rule}
use Rattle.policy.specs.declared.Decisions.{Decisions}
use Rattle.policy.specs.declared.Kind.{Kind}
use Rattle.policy.specs.Record.{listed, cut_list, cut_rule}
use Rattle.policy.specs.Same.{same_list, same_rule}
use Rattle.alike.specs.Comparable.{same_kind}

-- a test that decides a fact passes just where it holds
passes_iff : {A : Type 0} {b : Bool} → Decides b A → T b ↔ A
passes_iff {b = b} d = (λ t. d.0 (is_true b t), λ a. passes b (d.1 a))

-- numbers, lists of them, and kinds
pub equal_iff : (m n : ℕ) → T (eqb m n) ↔ (m ≡ n)
equal_iff m n = passes_iff (unsigned_Decides m n)

pub numbers_iff : (l m : List ℕ) → T (pointwise eqb l m) ↔ (l ≡ m)
numbers_iff l m = passes_iff (bytes_decides l m)

pub kind_iff : (a b : Kind) → T (same_kind a b) ↔ (a ≡ b)
kind_iff a b = passes_iff (same_true the_type tt a b, true_same the_type a b)

-- where the test of two entries passes just if g makes the same of them, that of two lists passes just if g makes the same of all
module _ {A B : Type 0} (f : A → A → Bool) (g : A → B) (one : (x y : A) → T (f x y) ↔ (g x ≡ g y)) where
  paired_map : (l m : List A) → T (pointwise f l m) → map g l ≡ map g m
  paired_map [] [] t = refl
  paired_map [] (y ∷ m) t = absurd t
  paired_map (x ∷ l) [] t = absurd t
  paired_map (x ∷ l) (y ∷ m) t =
      let first = (one x y).0 (and_left (f x y) (pointwise f l m) t) in
      let rest = paired_map l m (and_right (f x y) (pointwise f l m) t) in
      λ i. first i ∷ rest i

  paired_back : (l m : List A) → map g l ≡ map g m → T (pointwise f l m)
  paired_back [] [] e = tt
  paired_back [] (y ∷ m) e = absurd (let z : ◌≡◌ {A = ℕ} 0 1 = cc in omega arith)
  paired_back (x ∷ l) [] e = absurd (let z : ◌≡◌ {A = ℕ} 0 1 = cc in omega arith)
  paired_back (x ∷ l) (y ∷ m) e =
      let first : g x ≡ g y = cc in
      let rest : map g l ≡ map g m = cc in
      and_make (f x y) (pointwise f l m) ((one x y).1 first) (paired_back l m rest)

  pub paired_iff : (l m : List A) → T (pointwise f l m) ↔ (map g l ≡ map g m)
  paired_iff l m = (paired_map l m, paired_back l m)

-- lists of decisions, and rules
pub list_iff : (l m : Decisions) → T (same_list l m) ↔ (cut_list l ≡ cut_list m)
list_iff l m = (
  λ t.
      let count : l.count ≡ m.count = (equal_iff _ _).0 (search parts) in
      let at : listed l ≡ listed m = (numbers_iff _ _).0 (search parts) in
      λ i. record { count = count i; at = at i },
  λ e.
      and_make (eqb l.count m.count) (pointwise eqb (listed l) (listed m))
      ((equal_iff l.count m.count).1 (ap (λ (d : Decisions). d.count) e))
      ((numbers_iff (listed l) (listed m)).1 (ap (λ (d : Decisions). d.at) e)),
)

pub rule_iff : (r r' : Rule) → T (same_rule r r') ↔ (cut_rule r ≡ cut_rule r')
rule_iff r r' = (
  λ t.
      let head : r.head ≡ r'.head = (equal_iff _ _).0 (search parts) in
      let needs : r.needs ≡ r'.needs = (equal_iff _ _).0 (search parts) in
      let ifs : cut_list r.ifs ≡ cut_list r'.ifs = (list_iff _ _).0 (search parts) in
      let unless : cut_list r.unless ≡ cut_list r'.unless = (list_iff _ _).0 (search parts) in
      λ i. record { head = head i; needs = needs i; ifs = ifs i; unless = unless i },
  λ e.
      let head = (equal_iff r.head r'.head).1 (ap (λ (x : Rule). x.head) e) in
      let needs = (equal_iff r.needs r'.needs).1 (ap (λ (x : Rule). x.needs) e) in
      let ifs = (list_iff r.ifs r'.ifs).1 (ap (λ (x : Rule). x.ifs) e) in
      let unless = (list_iff r.unless r'.unless).1 (ap (λ (x : Rule). x.unless) e) in
      search and_make depth 9,
)
