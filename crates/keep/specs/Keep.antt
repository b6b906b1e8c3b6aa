-- The keep-off mask of a set s, for a test of which sets are enough: m actions, and those that are done already.
use Rattle.std.specs.Prelude.{ℕ, ◌^◌, Bool, ◌&&◌, not}
use Rattle.std.proofs.Math.Option.{Option, none, some}
use Rattle.std.specs.Int.Count.{ones}
use Rattle.base.specs.Every.{some_below}
use Rattle.mask.specs.Mask.{contains, disjoint}
use Rattle.mask.specs.Family.{lightest}
use Rattle.columns.specs.Sets.{is_offered}

-- what was found, or 0
unfoldable pub found_or0 : Option ℕ → ℕ
found_or0 none = 0
found_or0 (some k) = k

module _ (enough : ℕ → Bool) (m s done : ℕ) where
  -- t is offered and contains s, and is not enough
  unfoldable pub spoilt : ℕ → Bool
  spoilt t = is_offered m done t && (contains t s && not (enough t))

  -- k shares nothing with s or done, and no set that contains s and shares nothing with k or done is not enough
  unfoldable pub keeps_off : ℕ → Bool
  keeps_off k = disjoint k s && (disjoint k done && not (some_below (2 ^ m) (λ t. disjoint t k && spoilt t)))

  -- the keep-off mask with the fewest actions, and of those the one with the lowest number
  unfoldable pub keep_of : ℕ
  keep_of = found_or0 (lightest keeps_off ones (2 ^ m))
