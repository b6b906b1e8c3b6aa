-- How many numbers pass a test.
use Rattle.std.specs.Prelude.{ℕ, zero, suc, ◌+◌, Bool, cond}

-- how many of the numbers below n pass the test
unfoldable pub counted : (ℕ → Bool) → ℕ → ℕ
counted f zero = 0
counted f (suc n) = counted f n + cond (f n) 1 0
