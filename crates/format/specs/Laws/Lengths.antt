-- How long texts are: numbers, lists of numbers, and lines.
use Rattle.std.specs.Prelude.{ℕ, zero, suc, ◌+◌, ◌*◌, ◌-◌, ◌/◌, ◌^◌, ◌≤◌, ◌<◌, ◌≡◌, List, [], ◌∷◌, length}
use Rattle.std.proofs.Math.Decide.{dec_lt}
use Rattle.std.proofs.Common.{arith, length-append}
use Rattle.base.specs.Laws.All.{All, all_head, all_tail}
use Rattle.format.specs.Text.{decimal, decimal_by}
use Rattle.format.specs.Written.{line_of, joined, commas, each}
use Rattle.format.specs.Laws.Numbers.{decimal_by_length, one_digit, more_digits}

-- a number below 10 ^ k has at most k digits
pub decimal_length : (k n : ℕ) → n < 10 ^ suc k → length (decimal n) ≤ suc k
unfolding decimal
decimal_length k n h = decimal_by_length 9 k n h

-- and no number more than ten
digits_by : (fuel n : ℕ) → length (decimal_by fuel n) ≤ suc fuel
unfolding decimal_by
digits_by zero n = omega arith
digits_by (suc fuel) n = elim (dec_lt n 10) [
  | yes small ↦ rw (one_digit (suc fuel) n small) (omega arith)
  | no large ↦ rw (more_digits fuel n (omega arith), length-append) (omega (arith, digits_by fuel (n / 10)))
]

pub ten_digits : (n : ℕ) → length (decimal n) ≤ 10
unfolding decimal
ten_digits n = digits_by 9 n

-- a line is its contents and its key, the = sign and the LF
pub line_length : (key content : List ℕ) → length (line_of key content) ≡ length key + (length content + 2)
unfolding line_of
line_length key content = simp length-append (omega arith)

-- texts of at most b bytes each
pub each_length : {A : Type 0} (f : A → List ℕ) (b : ℕ) (l : List A) → All (λ x. length (f x) ≤ b) l → length (each f l) ≤ b * length l
unfolding each
each_length f b [] h = omega arith
each_length f b (x ∷ l) h = simp length-append (omega (arith, all_head h, each_length f b l (all_tail h)))

-- a list of numbers of at most b digits each, with a comma between
pub commas_length : (b : ℕ) (ds : List ℕ) → All (λ d. length (decimal d) ≤ b) ds → length (commas ds) ≤ suc b * length ds - 1
unfolding commas joined
commas_length b [] h = omega arith
commas_length b (d ∷ []) h = omega (arith, all_head h)
commas_length b (d ∷ (e ∷ ds)) h = simp length-append (omega (arith, all_head h, commas_length b (e ∷ ds) (all_tail h)))
