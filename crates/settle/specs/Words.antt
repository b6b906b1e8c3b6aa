-- Words of sets: bit i of a word stands for the i-th of 64 sets.
use Rattle.std.specs.Prelude.{ℕ, List, get_or, set}
use Rattle.std.specs.List.{fold}
use Rattle.std.specs.Int.Bits.{bit_and, bit_or}
use Rattle.mask.specs.Laws.Packed.{minus}
use Rattle.policy.specs.declared.Rule.{Rule}
use Rattle.policy.specs.Record.{listed}

-- an operation with the word of each decision listed, in turn
abbrev pub folded : (ℕ → ℕ → ℕ) → List ℕ → ℕ → List ℕ → ℕ
folded f held = fold (λ word d. f word (get_or held d 0))

-- those of the sets in which every decision listed is held
abbrev pub all_of : List ℕ → ℕ → List ℕ → ℕ
all_of = folded bit_and

-- those in which none is
abbrev pub none_of : List ℕ → ℕ → List ℕ → ℕ
none_of = folded minus

-- those of the sets that enable a rule in which its head is held now and was not
unfoldable pub added_of : List ℕ → ℕ → Rule → ℕ
added_of held enabled r =
    none_of held (all_of held (minus enabled (get_or held r.head 0)) (listed r.ifs)) (listed r.unless)

-- the words once more sets are added to that of decision d
abbrev pub grown : List ℕ → ℕ → ℕ → List ℕ
grown held d more = set held d (bit_or (get_or held d 0) more)
