-- A key in front, and the rest of a line.
use Rattle.std.specs.Prelude.{ℕ, suc, ◌+◌, ◌≤◌, ◌<◌, ◌≡◌, refl, Bool, true, false, not, ◌&&◌, List, [], ◌∷◌, length, take, drop, cond, eqb, nat_eq, ◌==◌}
use Rattle.std.specs.Cmp.{nat_eq_equiv}
use Rattle.std.specs.Cmp.Lexicographic.{pointwise}
use Rattle.std.specs.List.{position_or_len}
use Rattle.std.proofs.Common.{arith, ap, ◌∙◌, add-one}
use Rattle.std.proofs.lemmas.Grind.{common_steps}
use Rattle.format.specs.Laws.Lists.{listed_of}
use Rattle.format.specs.Parser.{Outcome, refused, found, exactly, rest_of_line, after}

-- a key is read where it stands in front
pub exactly_is : (key s : List ℕ) →
    exactly key s ≡ cond (pointwise nat_eq (take (length key) s) key) (found tt (drop (length key) s)) (refused 2)
unfolding exactly
exactly_is [] s = refl
exactly_is (b ∷ bs) [] = refl
exactly_is (b ∷ bs) (c ∷ s) = go (eqb b c) (exactly_is bs s) ∙ ap (λ t. answer (t && same)) (nat_eq_equiv.symm b c)
  where
    same : Bool
    same = pointwise nat_eq (take (length bs) s) bs

    answer : Bool → Outcome (Unit {0})
    answer t = cond t (found tt (drop (length bs) s)) (refused 2)

    go : (t : Bool) → exactly bs s ≡ answer same → elim t [ true ↦ exactly bs s | false ↦ refused 2 ] ≡ answer (t && same)
    go true ih = ih
    go false ih = refl

-- the place of the first LF, or the length where there is none
abbrev pub line_length : List ℕ → ℕ
line_length s = position_or_len (λ b. b == 10) s

-- the rest of a line is what stands before the LF
pub line_found : (s : List ℕ) → line_length s < length s →
    rest_of_line s ≡ found (take (line_length s) s) (drop (line_length s + 1) s)
unfolding rest_of_line
line_found [] h = absurd (omega arith)
line_found (b ∷ s) h = go (b == 10) (line_found s) h
  where
    k : Bool → ℕ
    k t = cond (not t) (1 + line_length s) 0

    go : (t : Bool) → (line_length s < length s → rest_of_line s ≡ found (take (line_length s) s) (drop (line_length s + 1) s)) →
        k t < length (b ∷ s) →
        elim t [ true ↦ found [] s | false ↦ after b (rest_of_line s) ] ≡ found (take (k t) (b ∷ s)) (drop (k t + 1) (b ∷ s))
    go true ih h = refl
    go false ih h =
        let e : 1 + line_length s ≡ suc (line_length s) = omega arith in
        rw (ih (omega arith), e, add-one, add-one)

pub line_missing : (s : List ℕ) → length s ≤ line_length s → rest_of_line s ≡ refused 2
unfolding rest_of_line
line_missing [] h = refl
line_missing (b ∷ s) h = go (b == 10) (line_missing s) h
  where
    go : (t : Bool) → (length s ≤ line_length s → rest_of_line s ≡ refused 2) →
        length (b ∷ s) ≤ cond (not t) (1 + line_length s) 0 →
        ◌≡◌ {A = Outcome (List ℕ)} (elim t [ true ↦ found [] s | false ↦ after b (rest_of_line s) ]) (refused 2)
    go true ih h = absurd (omega arith)
    go false ih h = ap (after b) (ih (omega arith))

pub ruleset line_parts = (common_steps, exactly_is, line_found, line_missing, listed_of)
