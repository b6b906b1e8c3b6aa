-- Laws of a list from a value at each place.
use Rattle.std.specs.Prelude.{ℕ, zero, suc, ◌≤◌, ◌<◌, List, ◌≡◌, refl, length, get_or}
use Rattle.std.proofs.Common.{sym, ◌∙◌, ap, arith, ext_get_or}
use Rattle.base.specs.Lists.{table}

-- a list of n entries, of which those below i are those of f
pub record Tabled (f : ℕ → ℕ) (n : ℕ) (l : List ℕ) (i : ℕ) : Type 0 where
  pub size : length l ≡ n
  pub within : i ≤ n
  pub entries : (j : ℕ) → j < i → get_or l j 0 ≡ f j

pub table_length : (n : ℕ) (f : ℕ → ℕ) → length (table n f) ≡ n
unfolding table
table_length zero f = refl
table_length (suc n) f = ap suc (table_length n (λ i. f (suc i)))

pub table_at : (n : ℕ) (f : ℕ → ℕ) (i d : ℕ) → i < n → get_or (table n f) i d ≡ f i
unfolding table
table_at zero f i d h = absurd (omega arith)
table_at (suc n) f zero d h = refl
table_at (suc n) f (suc i) d h = table_at n (λ j. f (suc j)) i d (omega arith)

pub table_only : (n : ℕ) (f : ℕ → ℕ) (l : List ℕ) → length l ≡ n → ((i : ℕ) → i < n → get_or l i 0 ≡ f i) → l ≡ table n f
table_only n f l s e = ext_get_or 0 l (table n f) (s ∙ sym (table_length n f))
    (λ i h. e i (omega arith) ∙ sym (table_at n f i 0 (omega arith)))
