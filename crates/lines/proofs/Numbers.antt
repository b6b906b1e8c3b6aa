-- The digits of a number, read one after the other.
use Rattle.std.specs.Prelude.{ℕ, ◌+◌, ◌*◌, ◌-◌, ◌^◌, ◌≤◌, ◌<◌, ◌≡◌, refl, Bool, true, false, List, length, drop, T}
use Rattle.std.proofs.Common.{arith, subst, add-one, drop-cons}
use Rattle.std.proofs.Math.ListN.{get_or}
use Rattle.std.proofs.lemmas.List.Folds.{list_all_at}
use Rattle.std.proofs.Math.Nat.{pow-suc, pow-le-pow_right}
use Rattle.format.specs.Format.{is_digit, is_number, spelt}
use Rattle.format.specs.Laws.Numbers.{number_parts, digit_range}

-- a number's bytes are digits, at most five
module _ (c : List ℕ) (e : true ≡ is_number c) where
  pub few : length c ≤ 5
  few = (number_parts c (subst T e tt)).few

  pub digit_at : (i : ℕ) → i < length c → (48 ≤ get_or c i 0) × (get_or c i 0 ≤ 57)
  digit_at i h = digit_range (get_or c i 0) (go (is_digit (get_or c i 0)) refl)
    where
      go : (b : Bool) → is_digit (get_or c i 0) ≡ b → T b
      go true q = tt
      go false q = subst T (list_all_at is_digit c i 0 h q) (number_parts c (subst T e tt)).digits

-- one digit more
pub spelt_on : (c : List ℕ) (i : ℕ) → i < length c → (v : ℕ) → spelt v (drop i c) ≡ spelt (v * 10 + (get_or c i 0 - 48)) (drop (i + 1) c)
unfolding spelt
spelt_on c i h v = rw (add-one, drop-cons c i 0)

-- i digits spell a number below 10 ^ i
pub below_tenfold : (v d i : ℕ) → v < 10 ^ i → d ≤ 9 → v * 10 + d < 10 ^ (i + 1)
below_tenfold v d i h l = rw (add-one, pow-suc) (omega arith)

pub below_all : (v i : ℕ) → v < 10 ^ i → i ≤ 5 → v < 100000
below_all v i h l = let p : 10 ^ i ≤ 10 ^ 5 = pow-le-pow_right (omega arith) l in omega arith

pub ruleset spelling = (few, digit_at, spelt_on, below_tenfold, below_all)
