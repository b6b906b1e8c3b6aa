-- A loop that fills an array, as it starts.
use Rattle.std.proofs.Common.{ℕ, List, ◌≡◌, zero-le, length, arith}
use Rattle.base.specs.Laws.Tables.{Tabled}

-- at first no entry is filled
pub tabled_none : {f : ℕ → ℕ} {n : ℕ} {l : List ℕ} → length l ≡ n → Tabled f n l 0
tabled_none e = record { size = e; within = zero-le; entries = λ j h. absurd (omega arith) }
