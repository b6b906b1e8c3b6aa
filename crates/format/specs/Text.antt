-- Text as the numbers of its bytes, and numbers as text.
use Rattle.std.specs.Prelude.{ℕ, zero, suc, ◌+◌, ◌/◌, ◌%◌, true, false, List, [], ◌∷◌, ◌++◌, ltb}
use Prim.Native.Char.{code}
use Prim.Native.String.{String}
use Prim.Native.String.{[] as empty, ◌∷◌ as ◌then◌}

-- the codes of a text's characters
abbrev pub ascii : String → List ℕ
ascii empty = []
ascii (c then s) = code c ∷ ascii s

-- the decimal digits of n, at most one more than the fuel
unfoldable pub decimal_by : ℕ → ℕ → List ℕ
decimal_by zero n = (48 + n) ∷ []
decimal_by (suc fuel) n = elim (ltb n 10) [ true ↦ (48 + n) ∷ [] | false ↦ decimal_by fuel (n / 10) ++ ((48 + n % 10) ∷ []) ]

-- a number of at most 10 digits
unfoldable pub decimal : ℕ → List ℕ
decimal n = decimal_by 9 n
