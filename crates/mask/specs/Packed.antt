-- A word from a test of each place.
use Rattle.std.specs.Prelude.{ℕ, zero, suc, ◌+◌, ◌*◌, Bool, cond}

-- bit i is set where f i passes, for the i below n
unfoldable pub packed : ℕ → (ℕ → Bool) → ℕ
packed zero f = 0
packed (suc n) f = packed n (λ i. f (suc i)) * 2 + cond (f 0) 1 0
