-- Tests that agree have the same keep-off mask.
use Rattle.std.specs.Prelude.{ℕ, ◌^◌, Bool, ◌&&◌, ◌≡◌, refl}
use Rattle.std.proofs.Math.Bool.{not}
use Rattle.std.proofs.Math.Path.{ap}
use Rattle.std.specs.Int.Count.{ones}
use Rattle.base.specs.Laws.Tests.{some_below_same}
use Rattle.mask.specs.Mask.{disjoint}
use Rattle.mask.specs.Laws.Lightest.{lightest_same}
use Rattle.keep.specs.Keep.{found_or0, spoilt, keeps_off, keep_of}

module _ (f g : ℕ → Bool) (e : (t : ℕ) → f t ≡ g t) (m s done : ℕ) where
  keeps_same : (k : ℕ) → keeps_off f m s done k ≡ keeps_off g m s done k
  unfolding keeps_off spoilt
  keeps_same k = ap (λ (b : Bool). disjoint k s && (disjoint k done && not b))
      (some_below_same (2 ^ m) (λ t. disjoint t k && spoilt f m s done t) (λ t. disjoint t k && spoilt g m s done t) (λ t h. rw (e t)))

  pub keep_of_same : keep_of f m s done ≡ keep_of g m s done
  unfolding keep_of
  keep_of_same = ap found_or0 (lightest_same (keeps_off f m s done) (keeps_off g m s done) ones ones (2 ^ m) (λ k h. keeps_same k) (λ k. refl))
