-- What a packed word is known by: its bits.
use Rattle.std.specs.Prelude.{ℕ, zero, suc, ◌+◌, ◌*◌, ◌/◌, ◌%◌, ◌^◌, ◌<◌, Bool, true, false, ◌&&◌, not, cond, ◌≡◌, refl, T, eqb}
use Rattle.std.proofs.Common.{sym, ◌∙◌, ap, subst, arith, lit<}
use Rattle.std.proofs.Math.Arith.{digits_mod}
use Rattle.std.specs.Int.Bits.{bit_and, bit_xor, differ, xor_step}
use Rattle.std.proofs.lemmas.Nat.{xor_shr}
use Rattle.mask.specs.Mask.{has}
use Rattle.mask.specs.Packed.{packed}
use Rattle.mask.specs.Laws.{digit, has_low, has_high, has_and, has→<, ⊆_antisym}

-- the members of a that are not in b
abbrev pub minus : ℕ → ℕ → ℕ
minus a b = bit_xor a (bit_and a b)

abbrev unlike : Bool → Bool → Bool
unlike a b = elim a [ true ↦ not b | false ↦ b ]

abbrev Digits : ℕ → ℕ → Type 0
Digits x y = (differ x y < 2) × (eqb (differ x y) 1 ≡ unlike (eqb x 1) (eqb y 1))

has_xor : (a b i : ℕ) → has (bit_xor a b) i ≡ unlike (has a i) (has b i)
has_xor a b i =
    ap (λ (x : ℕ). eqb (x % 2) 1) (xor_shr a b i ∙ xor_step (a / 2 ^ i) (b / 2 ^ i))
    ∙ ap (λ (x : ℕ). eqb x 1) (digits_mod (bit_xor (a / 2 ^ i / 2) (b / 2 ^ i / 2)) digits.0) ∙ digits.1
  where
    digits : Digits (a / 2 ^ i % 2) (b / 2 ^ i % 2)
    digits = digit (λ (x : ℕ). Digits x (b / 2 ^ i % 2))
        (digit (Digits 0) (lit< tt, refl) (lit< tt, refl) (b / 2 ^ i % 2) (omega arith))
        (digit (Digits 1) (lit< tt, refl) (lit< tt, refl) (b / 2 ^ i % 2) (omega arith))
        (a / 2 ^ i % 2) (omega arith)

take_away : (a b : Bool) → unlike a (a && b) ≡ (a && not b)
take_away true b = refl
take_away false b = refl

pub has_minus : (a b i : ℕ) → has (minus a b) i ≡ (has a i && not (has b i))
has_minus a b i = has_xor a (bit_and a b) i ∙ rw (has_and a b i, take_away (has a i) (has b i))

digit_lt : (b : Bool) → cond b 1 0 < 2
digit_lt true = lit< tt
digit_lt false = lit< tt

digit_is : (b : Bool) → eqb (cond b 1 0) 1 ≡ b
digit_is true = refl
digit_is false = refl

pub packed_lt : (n : ℕ) (f : ℕ → Bool) → packed n f < 2 ^ n
unfolding packed
packed_lt zero f = lit< tt
packed_lt (suc n) f = omega (arith, packed_lt n (λ i. f (suc i)), digit_lt (f 0))

pub packed_bit : (n : ℕ) (f : ℕ → Bool) (i : ℕ) → i < n → has (packed n f) i ≡ f i
unfolding packed
packed_bit zero f i h = absurd (omega arith)
packed_bit (suc n) f zero h = has_low (packed n (λ i. f (suc i)) * 2 + cond (f 0) 1 0)
    ∙ ap (λ (x : ℕ). eqb x 1) low ∙ digit_is (f 0)
  where
    low : (packed n (λ i. f (suc i)) * 2 + cond (f 0) 1 0) % 2 ≡ cond (f 0) 1 0
    low = omega (arith, digit_lt (f 0))
packed_bit (suc n) f (suc i) h = has_high (packed n (λ i. f (suc i)) * 2 + cond (f 0) 1 0) i
    ∙ ap (λ (x : ℕ). has x i) high ∙ packed_bit n (λ j. f (suc j)) i (omega arith)
  where
    high : (packed n (λ i. f (suc i)) * 2 + cond (f 0) 1 0) / 2 ≡ packed n (λ i. f (suc i))
    high = omega (arith, digit_lt (f 0))

-- two words with the same bits are the same
pub same_bits : (n x y : ℕ) → x < 2 ^ n → y < 2 ^ n → ((i : ℕ) → i < n → has x i ≡ has y i) → x ≡ y
same_bits n x y s t e = ⊆_antisym x y (λ i u. subst T (e i (has→< x i n u s)) u) (λ i u. subst T (sym (e i (has→< y i n u t))) u)

pub packed_only : (n x : ℕ) (f : ℕ → Bool) → x < 2 ^ n → ((i : ℕ) → i < n → has x i ≡ f i) → x ≡ packed n f
packed_only n x f s e = same_bits n x (packed n f) s (packed_lt n f) (λ i h. e i h ∙ sym (packed_bit n f i h))

pub packed_same : (n : ℕ) (f g : ℕ → Bool) → ((i : ℕ) → i < n → f i ≡ g i) → packed n f ≡ packed n g
packed_same n f g e = packed_only n (packed n f) g (packed_lt n f) (λ i h. packed_bit n f i h ∙ e i h)
