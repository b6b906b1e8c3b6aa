-- A number's digits: the contents that are a number are the decimal digits of what they spell.
use Rattle.std.specs.Prelude.{ℕ, zero, suc, ◌+◌, ◌*◌, ◌-◌, ◌/◌, ◌%◌, ◌^◌, ◌≤◌, ◌<◌, ◌≡◌, refl, true, not, ◌||◌, ◌⊎◌, ◌≢◌, List, [], ◌∷◌, ◌++◌, length, T, eqb}
use Rattle.std.proofs.Common.{arith, sym, ap, subst, ◌∙◌, ⊎_elim, append_assoc, append-nil, length-append, T_not, lt-ltb, le-ltb}
use Rattle.std.proofs.Math.Decide.{dec_lt}
use Rattle.std.proofs.Math.Logic.{inl, inr}
use Rattle.std.proofs.Math.ListN.{get_or, get_or-append}
use Rattle.std.proofs.Math.Dec.{not_T}
use Rattle.std.proofs.Math.Facts.{and_yes, yes_and, or_yes, eqb_yes, eqb_no, yes_eqb, no_eqb, leb_yes, yes_leb}
use Rattle.std.specs.List.{list_all}
use Rattle.base.specs.Laws.Tests.{parts, or_left, or_right, between_iff, every_both}
use Rattle.format.specs.Text.{decimal, decimal_by}
use Rattle.format.specs.Format.{is_digit, is_number, spelt}

-- digits after digits go on from what the first spell
spelt_append : (v : ℕ) (c d : List ℕ) → spelt v (c ++ d) ≡ spelt (spelt v c) d
unfolding spelt
spelt_append v [] d = refl
spelt_append v (b ∷ c) d = spelt_append (v * 10 + (b - 48)) c d

-- a number below 10 has one digit
pub one_digit : (fuel n : ℕ) → n < 10 → decimal_by fuel n ≡ (48 + n) ∷ []
unfolding decimal_by
one_digit zero n h = refl
one_digit (suc fuel) n h = rw (lt-ltb n 10 h, decimal_by)

-- any other has those of its tenth and one more
pub more_digits : (fuel n : ℕ) → 10 ≤ n → decimal_by (suc fuel) n ≡ decimal_by fuel (n / 10) ++ ((48 + n % 10) ∷ [])
unfolding decimal_by
more_digits fuel n h = rw (le-ltb n 10 h, decimal_by)

-- what holds of one digit and is kept by one more digit holds of every number's digits
digits_ind : (P : ℕ → List ℕ → Type 0) → ((n : ℕ) → n < 10 → P n ((48 + n) ∷ []))
    → ((n : ℕ) (c : List ℕ) → 10 ≤ n → P (n / 10) c → P n (c ++ ((48 + n % 10) ∷ [])))
    → (fuel n : ℕ) → n < 10 ^ suc fuel → P n (decimal_by fuel n)
digits_ind P one more zero n h = rw (one_digit zero n (omega arith)) (one n (omega arith))
digits_ind P one more (suc fuel) n h =
    elim (dec_lt n 10) [
      | yes small ↦ rw (one_digit (suc fuel) n small) (one n small)
      | no large ↦
          let ten : 10 ≤ n = omega arith in
          rw (more_digits fuel n ten) (more n (decimal_by fuel (n / 10)) ten (digits_ind P one more fuel (n / 10) (omega arith)))
    ]

-- what the digits of n are
record Digits (n : ℕ) (c : List ℕ) : Type 0 where
  spell : spelt 0 c ≡ n
  digits : T (list_all is_digit c)
  some : 0 < length c
  leads : 0 < n → 48 < get_or c 0 0

-- a digit's byte
digit : (d : ℕ) → d < 10 → T (is_digit (48 + d))
unfolding is_digit
digit d h = (between_iff 48 (48 + d) 57).1 (omega arith, omega arith)

-- one more digit
one_more : (n : ℕ) (c : List ℕ) → 10 ≤ n → Digits (n / 10) c → Digits n (c ++ ((48 + n % 10) ∷ []))
unfolding spelt
one_more n c h d =
    record {
      spell = spelt_append 0 c ((48 + n % 10) ∷ []) ∙ rw d.spell (omega arith);
      digits = every_both is_digit c _ d.digits (yes_and (is_digit (48 + n % 10)) true (digit (n % 10) (omega arith)) tt);
      some = rw length-append (omega arith);
      leads = λ _. rw (get_or-append c ((48 + n % 10) ∷ []) 0 0 d.some) (d.leads (omega arith));
    }

-- the digits of every number that the fuel is enough for
decimal_by_digits : (fuel n : ℕ) → n < 10 ^ suc fuel → Digits n (decimal_by fuel n)
unfolding spelt
decimal_by_digits =
    digits_ind Digits
    (λ n h. record {
      spell = omega arith;
      digits = yes_and (is_digit (48 + n)) true (digit n h) tt;
      some = omega arith;
      leads = λ positive. omega arith;
    })
    one_more

-- a number below 10 ^ k has at most k digits
pub decimal_by_length : (fuel k n : ℕ) → n < 10 ^ suc k → length (decimal_by fuel n) ≤ suc k
unfolding decimal_by
decimal_by_length zero k n h = omega arith
decimal_by_length (suc fuel) zero n h = rw (one_digit (suc fuel) n (omega arith)) (omega arith)
decimal_by_length (suc fuel) (suc k) n h =
    elim (dec_lt n 10) [
      | yes small ↦ rw (one_digit (suc fuel) n small) (omega arith)
      | no large ↦ rw (more_digits fuel n (omega arith), length-append) (omega (arith, decimal_by_length fuel k (n / 10) (omega arith)))
    ]

-- digits hold no byte that is no digit
pub digits_only : (x : ℕ) → T (not (is_digit x)) → (c : List ℕ) → T (list_all is_digit c) → T (list_all (λ b. not (eqb b x)) c)
digits_only x other [] t = tt
digits_only x other (b ∷ c) t =
    let both = and_yes (is_digit b) (list_all is_digit c) t in
    yes_and (not (eqb b x)) _ (not_T (eqb b x) (λ same. T_not (is_digit x) other (subst (λ y. T (is_digit y)) (eqb_yes same) both.0)))
    (digits_only x other c both.1)

-- the four parts of a number's test
pub record IsNumber (c : List ℕ) : Type 0 where
  pub digits : T (list_all is_digit c)
  pub some : 0 < length c
  pub few : length c ≤ 5
  pub leads : (length c ≡ 1) ⊎ (get_or c 0 0 ≢ 48)

-- they are what the test says, and back
pub number_parts : (c : List ℕ) → T (is_number c) → IsNumber c
unfolding is_number
number_parts c t = record {
  digits = search parts;
  some = leb_yes (search parts);
  few = leb_yes (search parts);
  leads = elim (or_yes (eqb (length c) 1) (not (eqb (get_or c 0 0) 48)) (search parts)) [
    | inl one ↦ inl (eqb_yes one)
    | inr other ↦ inr (eqb_no other)
  ];
}

pub parts_number : (c : List ℕ) → IsNumber c → T (is_number c)
unfolding is_number
parts_number c p =
    let some = yes_leb p.some in
    let few = yes_leb p.few in
    let leads : T (eqb (length c) 1 || not (eqb (get_or c 0 0) 48)) = elim p.leads [
      | inl one ↦ or_left (eqb (length c) 1) _ (yes_eqb one)
      | inr other ↦ or_right (eqb (length c) 1) _ (no_eqb other)
    ] in
    search yes_and

module _ (n : ℕ) (h : n < 100000) where
  -- the digits of n spell n
  pub decimal_spells : spelt 0 (decimal n) ≡ n
  unfolding decimal
  decimal_spells = (decimal_by_digits 9 n (omega arith)).spell

  -- are one at least
  pub decimal_some : 0 < length (decimal n)
  unfolding decimal
  decimal_some = (decimal_by_digits 9 n (omega arith)).some

  -- are digits
  pub decimal_digits : T (list_all is_digit (decimal n))
  unfolding decimal
  decimal_digits = (decimal_by_digits 9 n (omega arith)).digits

  -- and are a number
  pub decimal_number : T (is_number (decimal n))
  unfolding decimal
  decimal_number =
      let d = decimal_by_digits 9 n (omega arith) in
      parts_number (decimal n) (record {
        digits = d.digits;
        some = d.some;
        few = decimal_by_length 9 4 n h;
        leads = elim (dec_lt n 10) [
          | yes small ↦ inl (rw (one_digit 9 n small))
          | no large ↦ inr (let first : 48 < get_or (decimal_by 9 n) 0 0 = d.leads (omega arith) in omega arith)
        ];
      })

-- the bytes of the digits
pub digit_range : (b : ℕ) → T (is_digit b) → (48 ≤ b) × (b ≤ 57)
unfolding is_digit
digit_range b t = (between_iff 48 b 57).0 t

-- digits after those of a number v that is not 0 are the digits of what they spell
further_digits : (c : List ℕ) (fuel more v : ℕ) → more ≡ fuel + length c → 0 < v → T (list_all is_digit c)
    → decimal_by more (spelt v c) ≡ decimal_by fuel v ++ c
unfolding spelt
further_digits [] fuel more v e h t = rw (append-nil, e) (ap (λ k. decimal_by k v) (omega arith))
further_digits (b ∷ c) fuel more v e h t =
    let both = and_yes (is_digit b) (list_all is_digit c) t in
    let range = digit_range b both.0 in
    let tenth : (v * 10 + (b - 48)) / 10 ≡ v = omega arith in
    let last : 48 + (v * 10 + (b - 48)) % 10 ≡ b = omega arith in
    further_digits c (suc fuel) more (v * 10 + (b - 48)) (omega arith) (omega arith) both.1
    ∙ ap (λ l. l ++ c) (more_digits fuel (v * 10 + (b - 48)) (omega arith)) ∙ rw (tenth, last, append_assoc)

-- a number is the digits of what it spells
pub number_decimal : (c : List ℕ) → T (is_number c) → c ≡ decimal (spelt 0 c)
unfolding decimal spelt
number_decimal c t = go c (number_parts c t)
  where
    alone : (fuel b : ℕ) → T (is_digit b) → decimal_by fuel (0 + (b - 48)) ≡ b ∷ []
    alone fuel b t =
        let range = digit_range b t in
        one_digit fuel (0 + (b - 48)) (omega arith) ∙ ap {B = List ℕ} (λ x. x ∷ []) (omega arith)

    go : (c : List ℕ) → IsNumber c → c ≡ decimal (spelt 0 c)
    go [] p = absurd (omega arith)
    go (b ∷ []) p = sym (alone 9 b (and_yes (is_digit b) true p.digits).0)
    go (b ∷ (d ∷ c)) p =
        let both = and_yes (is_digit b) (list_all is_digit (d ∷ c)) p.digits in
        let range = digit_range b both.0 in
        let first : b ≢ 48 = ⊎_elim (λ one. absurd (omega arith)) (λ other. other) p.leads in
        sym (further_digits (d ∷ c) (9 - length (d ∷ c)) 9 (0 + (b - 48)) (omega arith) (omega arith) both.1
        ∙ ap (λ l. l ++ (d ∷ c)) (alone (9 - length (d ∷ c)) b both.0))
