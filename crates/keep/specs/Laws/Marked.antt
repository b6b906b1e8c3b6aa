-- Where a table marks the sets that have a spoilt subset, k keeps off what spoils s just if the largest set that it leaves is unmarked.
use Rattle.std.specs.Prelude.{ℕ, ◌+◌, ◌/◌, ◌^◌, ◌<◌, Bool, ◌&&◌, List, ◌≡◌, refl, T, ltb}
use Rattle.std.proofs.Math.Bool.{not, and_assoc}
use Rattle.std.proofs.Math.Path.{sym, ap}
use Rattle.std.proofs.Common.{◌∙◌, arith, ltb→lt}
use Rattle.std.specs.Int.Count.{ones}
use Rattle.base.specs.Every.{some_below}
use Rattle.base.specs.Laws.Tests.{same, and_make, and_left, and_right, some_below_at, some_below_make}
use Rattle.mask.specs.Mask.{contains, disjoint}
use Rattle.mask.specs.Family.{lightest}
use Rattle.mask.specs.Laws.{disjoint_iff}
use Rattle.mask.specs.Laws.Lightest.{lightest_same}
use Rattle.mask.specs.Laws.Minimal.{covered, covered_at, covered_make}
use Rattle.columns.specs.Sets.{is_offered}
use Rattle.covers.specs.Covers.{Table, marked_in}
use Rattle.covers.specs.Laws.Marks.{table_marked}
use Rattle.keep.specs.Keep.{found_or0, spoilt, keeps_off, keep_of}
use Rattle.keep.specs.Search.{rest_of, unmarked}
use Rattle.keep.specs.Laws.Rest.{rest_set, rest_apart, rest_make, disjoint_or}

module _ (enough : ℕ → Bool) (m s done : ℕ) where
  -- a spoilt set is one of the m actions, and shares nothing with done
  spoilt_offered : (t : ℕ) → T (spoilt enough m s done t) → T (is_offered m done t)
  unfolding spoilt
  spoilt_offered t h = and_left (is_offered m done t) (contains t s && not (enough t)) h

  spoilt_set : (t : ℕ) → T (spoilt enough m s done t) → t < 2 ^ m
  spoilt_set t h = ltb→lt t (2 ^ m) (and_left (ltb t (2 ^ m)) (disjoint t done) (spoilt_offered t h))

  -- some spoilt set shares nothing with k just if one lies in what k leaves
  rest_covered : (k : ℕ) → some_below (2 ^ m) (λ t. disjoint t k && spoilt enough m s done t)
      ≡ covered (spoilt enough m s done) (rest_of m done k)
  rest_covered k = same (some_below (2 ^ m) clash) (covered (spoilt enough m s done) (rest_of m done k)) there back
    where
      clash : ℕ → Bool
      clash t = disjoint t k && spoilt enough m s done t

      there : T (some_below (2 ^ m) clash) → T (covered (spoilt enough m s done) (rest_of m done k))
      there h =
          let one = some_below_at clash (2 ^ m) h in
          let t = one.0 in
          let bad : T (spoilt enough m s done t) = and_right (disjoint t k) (spoilt enough m s done t) one.2 in
          covered_make (spoilt enough m s done) (rest_of m done k) t
          (rest_make m done k t one.1 (and_left (disjoint t k) (spoilt enough m s done t) one.2)
          (and_right (ltb t (2 ^ m)) (disjoint t done) (spoilt_offered t bad))) bad

      back : T (covered (spoilt enough m s done) (rest_of m done k)) → T (some_below (2 ^ m) clash)
      back h =
          let one = covered_at (spoilt enough m s done) (rest_of m done k) h in
          let t = one.0 in
          some_below_make clash (2 ^ m) t (spoilt_set t one.2)
          (and_make (disjoint t k) (spoilt enough m s done t) ((disjoint_iff t k).1 (λ i u. rest_apart m done k i (one.1 i u))) one.2)

  module _ (table : List ℕ) (marks : Table (covered (spoilt enough m s done)) ((2 ^ m + 63) / 64) table) where
    keeps_is : (k : ℕ) → keeps_off enough m s done k ≡ unmarked table m s done k
    unfolding keeps_off unmarked
    keeps_is k = ap (λ (b : Bool). disjoint k s && (disjoint k done && not b))
        (rest_covered k ∙ sym (table_marked marks (rest_of m done k) (omega (arith, rest_set m done k))))
        ∙ sym (and_assoc (disjoint k s) (disjoint k done) (not (marked_in table (rest_of m done k))))
        ∙ ap (λ (b : Bool). b && not (marked_in table (rest_of m done k))) (sym (disjoint_or k s done))

    -- so the search through the unmarked ones finds the mask
    pub keep_of_is : keep_of enough m s done ≡ found_or0 (lightest (unmarked table m s done) ones (2 ^ m))
    unfolding keep_of
    keep_of_is = ap found_or0 (lightest_same (keeps_off enough m s done) (unmarked table m s done) ones ones (2 ^ m)
        (λ k l. keeps_is k) (λ k. refl))
