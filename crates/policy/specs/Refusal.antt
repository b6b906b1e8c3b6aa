-- The refusals and their numbers in documents 01 and 02.
use Rattle.std.specs.Prelude.{ℕ, zero, suc, ◌-◌, List, [], ◌∷◌, ◌≡◌, refl, get_or, Result, Ok, Err}
use Rattle.policy.specs.declared.refusal.Refusal.{Refusal}
use Rattle.policy.specs.declared.refusal.Refusal.TheVariants.{TooLong, Malformed, OutOfRange, NotRising, LevelsUnfit, WeightsUnfit, SharesWithDone, ListTooShort, NoLevels, BufferTooShort}

abbrev pub number_of : Refusal → ℕ
number_of TooLong = 1
number_of Malformed = 2
number_of OutOfRange = 3
number_of NotRising = 4
number_of LevelsUnfit = 5
number_of WeightsUnfit = 6
number_of SharesWithDone = 7
number_of ListTooShort = 8
number_of NoLevels = 9
number_of BufferTooShort = 10

-- the refusals in the order of their numbers
abbrev pub refusals : List Refusal
refusals =
    TooLong ∷ Malformed ∷ OutOfRange ∷ NotRising ∷ LevelsUnfit ∷ WeightsUnfit ∷ SharesWithDone ∷ ListTooShort ∷ NoLevels
    ∷ BufferTooShort ∷ []

-- the refusal with a number from 1 to 10
unfoldable pub refusal_of : ℕ → Refusal
refusal_of n = get_or refusals (n - 1) BufferTooShort

pub refusal_of_number : (r : Refusal) → refusal_of (number_of r) ≡ r
unfolding refusal_of
refusal_of_number TooLong = refl
refusal_of_number Malformed = refl
refusal_of_number OutOfRange = refl
refusal_of_number NotRising = refl
refusal_of_number LevelsUnfit = refl
refusal_of_number WeightsUnfit = refl
refusal_of_number SharesWithDone = refl
refusal_of_number ListTooShort = refl
refusal_of_number NoLevels = refl
refusal_of_number BufferTooShort = refl

-- a call is refused by the question with this number
abbrev pub refuse : {A : Type 0} → ℕ → Result A Refusal
refuse n = Err (refusal_of n)

-- what is answered where questions are put and nothing else is asked for: all are answered yes where their number is 0
unfoldable pub outcome : ℕ → Result (Unit {0}) Refusal
outcome zero = Ok tt
outcome (suc n) = refuse (suc n)
