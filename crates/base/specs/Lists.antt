-- A list from a value at each place, and a list filled up to an array's places.
use Rattle.std.specs.Prelude.{ℕ, zero, suc, ◌-◌, List, [], ◌∷◌, ◌++◌, length, replicate}

-- entry i is f i, for the i below n
unfoldable pub table : ℕ → (ℕ → ℕ) → List ℕ
table zero f = []
table (suc n) f = f 0 ∷ table n (λ i. f (suc i))

-- a list filled up with z to n places
unfoldable pub filled : {A : Type 0} → ℕ → A → List A → List A
filled n z l = l ++ replicate (n - length l) z
