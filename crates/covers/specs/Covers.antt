-- The table of marks in words: bit i of word w stands for the set 64 w + i, i for its lowest six actions and w for the others.
use Rattle.std.specs.Prelude.{ℕ, zero, suc, ◌+◌, ◌-◌, ◌*◌, ◌/◌, ◌%◌, ◌^◌, ◌<◌, Bool, not, List, ◌≡◌, T, length, get_or}
use Rattle.std.specs.Int.Bits.{bit_or}
use Rattle.mask.specs.Mask.{has}
use Rattle.mask.specs.Laws.Packed.{minus}
use Rattle.columns.specs.Sets.{set_at, picked}
use Rattle.columns.specs.Laws.Columns.{lows}

-- the number of words that hold the sets of so many actions
abbrev pub word_count : ℕ → ℕ
word_count actions = (2 ^ actions + 63) / 64

-- the word has those of its 64 sets that pass the test
pub record Marks (test : ℕ → Bool) (w word : ℕ) : Type 0 where
  pub bits : (i : ℕ) → i < 64 → has word i ≡ test (set_at w i)

-- the first n words of a table of 1,024 have the sets that pass the test
pub record Table (test : ℕ → Bool) (n : ℕ) (table : List ℕ) : Type 0 where
  pub size : length table ≡ 1024
  pub right : (v : ℕ) → v < n → Marks test v (get_or table v 0)

-- the word has members of the family among its 64 sets, at least all those that are not in `low`
pub record Members (takes : ℕ → Bool) (w low word : ℕ) : Type 0 where
  pub only : (i : ℕ) → i < 64 → T (has word i) → T (takes (set_at w i))
  pub all : (i : ℕ) → i < 64 → T (takes (set_at w i)) → T (not (has low i)) → T (has word i)

-- the table marks the set s
unfoldable pub marked_in : List ℕ → ℕ → Bool
marked_in table s = has (get_or table (s / 64) 0) (s % 64)

-- ---- how a word is worked
-- action a added to each marked set that lacks it
unfoldable pub moved : ℕ → ℕ → ℕ
moved marks a = minus marks (get_or lows a 0) * 2 ^ (2 ^ a) % 18446744073709551616

-- closed under adding each of the first n actions
unfoldable pub closed_of : ℕ → ℕ → ℕ
closed_of marks zero = marks
closed_of marks (suc n) = bit_or (closed_of marks n) (moved (closed_of marks n) n)

-- the sets that are a marked set and one of the first n actions more
unfoldable pub less_of : ℕ → ℕ → ℕ
less_of marks zero = 0
less_of marks (suc n) = bit_or (less_of marks n) (moved marks n)

-- the sets of w that are marked without one of the actions from 6 on
unfoldable pub low_of : List ℕ → ℕ → ℕ
low_of table w = picked bit_or (has w) (λ b. get_or table (w - 2 ^ b) 0) 0 10

-- of the sets of a word those with a subset in the family, and the minimal members
abbrev pub covered_of : ℕ → ℕ → ℕ
covered_of members low = closed_of (bit_or members low) 6

abbrev pub slim_of : ℕ → ℕ → ℕ
slim_of members low = minus members (bit_or low (less_of (covered_of members low) 6))
