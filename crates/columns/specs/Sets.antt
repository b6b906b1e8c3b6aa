-- The 64 sets of a word w: the i-th is the mask 64 w + i.
use Rattle.std.specs.Prelude.{ℕ, zero, suc, ◌+◌, ◌*◌, ◌/◌, ◌%◌, ◌^◌, Bool, ◌&&◌, ◌||◌, cond, ltb, leb, get_or, List}
use Rattle.std.specs.Int.Bits.{bit_and, bit_or}
use Rattle.base.specs.Lists.{table}
use Rattle.mask.specs.Mask.{has, contains, disjoint}
use Rattle.mask.specs.Packed.{packed}

-- the i-th set
abbrev pub set_at : ℕ → ℕ → ℕ
set_at w i = 64 * w + i

-- every one of the 64
abbrev pub all_sets : ℕ
all_sets = 18446744073709551615

-- those that have action a
unfoldable pub column_of : ℕ → ℕ → ℕ
column_of w a = packed 64 (λ i. has (set_at w i) a)

-- a set of the first m actions that shares nothing with done
abbrev pub is_offered : ℕ → ℕ → ℕ → Bool
is_offered m done s = ltb s (2 ^ m) && disjoint s done

-- those that are offered
unfoldable pub offered_of : ℕ → ℕ → ℕ → ℕ
offered_of m done w = packed 64 (λ i. is_offered m done (set_at w i))

-- those that contain the set
unfoldable pub holding_of : ℕ → ℕ → ℕ
holding_of set w = packed 64 (λ i. contains (set_at w i) set)

-- no offered set has action a
abbrev pub is_shut : ℕ → ℕ → ℕ → Bool
is_shut m done a = leb m a || has done a

-- n steps from a word: where the test of a step passes, an operation with the step's value
unfoldable pub picked : (ℕ → ℕ → ℕ) → (ℕ → Bool) → (ℕ → ℕ) → ℕ → ℕ → ℕ
picked op test value word zero = word
picked op test value word (suc n) = cond (test n) (op (picked op test value word n) (value n)) (picked op test value word n)

-- those that have one of the actions that lead to b, or all of them where `base` has b
unfoldable pub gathered : ℕ → List ℕ → ℕ → ℕ → ℕ
gathered base leads w b = picked bit_or (λ a. has (get_or leads a 0) b) (column_of w) (cond (has base b) all_sets 0) 16

-- those whose worlds have the actions of the mask v, of the four actions from 4 z on, from the word of each action
unfoldable pub four_of : List ℕ → ℕ → ℕ → ℕ
four_of world z v = picked bit_and (has v) (λ b. get_or world (4 * z + b) 0) all_sets 4

-- the same for each four actions and each mask of them, at 16 z + v
unfoldable pub fours_of : List ℕ → List ℕ
fours_of world = table 64 (λ n. four_of world (n / 16) (n % 16))

-- those of the sets whose worlds have all the needs
unfoldable pub needed_of : List ℕ → ℕ → ℕ → ℕ
needed_of fours needs sets =
    bit_and (bit_and (bit_and (bit_and sets (get_or fours (needs % 16) 0)) (get_or fours (16 + needs / 16 % 16) 0))
    (get_or fours (32 + needs / 256 % 16) 0)) (get_or fours (48 + needs / 4096 % 16) 0)
