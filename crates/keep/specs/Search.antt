-- How the code finds the keep-off mask of a set: in a table that marks the sets which have a spoilt subset.
use Rattle.std.proofs.Math.Option.{Option as Found, none, some}
use Rattle.std.specs.Prelude.{ℕ, ◌-◌, ◌^◌, Bool, false, ◌&&◌, not, List, Option, None, Some, eqb, leb}
use Rattle.std.specs.Int.Count.{ones}
use Rattle.std.specs.Int.Bits.{bit_or}
use Rattle.std.specs.List.{list_any}
use Rattle.mask.specs.Mask.{disjoint}
use Rattle.mask.specs.Laws.Packed.{minus}
use Rattle.policy.specs.declared.Policy.{Policy}
use Rattle.policy.specs.Record.{rules_of}
use Rattle.covers.specs.Covers.{marked_in}

-- some rule has an unless entry
unfoldable pub some_unless : Policy → Bool
some_unless p = list_any (λ r. not (eqb r.unless.count 0)) (rules_of p)

-- the largest set of m actions that shares nothing with k or done
unfoldable pub rest_of : ℕ → ℕ → ℕ → ℕ
rest_of m done k = minus (2 ^ m - 1) (bit_or k done)

-- k shares nothing with s or done, and that set is not marked
unfoldable pub unmarked : List ℕ → ℕ → ℕ → ℕ → ℕ → Bool
unmarked table m s done k = disjoint k (bit_or s done) && not (marked_in table (rest_of m done k))

-- k has as many actions as the best mask so far, or more
abbrev pub no_fewer : Option ℕ → ℕ → Bool
no_fewer None k = false
no_fewer (Some b) k = leb (ones b) (ones k)

-- the best mask so far stands for what is found
pub data Stands : Option ℕ → Found ℕ → Type 0 where
  nothing : Stands None none
  named : (b : ℕ) → Stands (Some b) (some b)
