-- What is put of each entry of a list, entry by entry: texts one after the other, or with commas between. And how long
-- the line of a refusal is.
use Rattle.std.specs.Prelude.{ℕ, zero, suc, ◌+◌, ◌≤◌, ◌<◌, ◌≡◌, refl, List, [], ◌∷◌, ◌++◌, map, length, take, get_or}
use Rattle.std.proofs.Common.{sym, ◌∙◌, ap, append_assoc, append-nil, add-one, arith, take-suc, length-take-le}
use Rattle.std.proofs.lemmas.List.{map-append, length-map}
use Rattle.format.specs.Text.{ascii}
use Rattle.format.specs.Written.{joined, each}
use Rattle.format.specs.Laws.Lengths.{ten_digits, line_length}
use Rattle.text.specs.declared.Pen.{Pen}
use Rattle.text.specs.Put.{with_text, refused_text}
use Rattle.text.specs.Laws.Pens.{with_none, with_both}

-- one more text behind texts
joined_more : (q : List ℕ) (ps : List (List ℕ)) (p : List ℕ) → joined ((q ∷ ps) ++ (p ∷ [])) ≡ joined (q ∷ ps) ++ (ascii "," ++ p)
unfolding joined
joined_more q [] p = refl
joined_more q (r ∷ ps) p = rw (joined_more r ps p) (sym (append_assoc q _ _))

-- the texts of a list with commas between, and the next
joined_one : (ps : List (List ℕ)) (p : List ℕ) → ¬ (length ps ≡ 0) → joined (ps ++ (p ∷ [])) ≡ joined ps ++ (ascii "," ++ p)
joined_one [] p h = absurd (h refl)
joined_one (q ∷ ps) p h = joined_more q ps p

pub no_entry : (pen : Pen) → pen ≡ with_text (joined []) pen
unfolding joined
no_entry pen = sym (with_none pen)

pub first_entry : {A : Type 0} (f : A → List ℕ) (xs : List A) (d : A) (i : ℕ) (pen : Pen) → i < length xs → i ≡ 0
    → with_text (joined (map f (take (i + 1) xs))) pen ≡ with_text (f (get_or xs i d)) (with_text (joined (map f (take i xs))) pen)
unfolding joined
first_entry f [] d i pen h e = absurd (omega arith)
first_entry f (x ∷ xs) d (suc i) pen h e = absurd (omega arith)
first_entry f (x ∷ xs) d zero pen h e = sym (ap (with_text (f x)) (with_none pen))

pub next_entry : {A : Type 0} (f : A → List ℕ) (xs : List A) (d : A) (i : ℕ) (pen : Pen) → i < length xs → ¬ (i ≡ 0)
    → with_text (joined (map f (take (i + 1) xs))) pen
    ≡ with_text (f (get_or xs i d)) (with_text (ascii ",") (with_text (joined (map f (take i xs))) pen))
next_entry f xs d i pen h some =
    let before = map f (take i xs) in
    let more : map f (take (i + 1) xs) ≡ before ++ (f (get_or xs i d) ∷ []) =
    rw (add-one, take-suc xs i d h) (map-append f (take i xs) (get_or xs i d ∷ [])) in
    let long : length before ≡ i = length-map (take i xs) f ∙ length-take-le i xs (omega arith) in
    ap (λ l. with_text (joined l) pen) more
    ∙ ap (λ t. with_text t pen) (joined_one before (f (get_or xs i d)) (λ e. some (sym long ∙ e)))
    ∙ with_both (joined before) (ascii "," ++ f (get_or xs i d)) pen ∙ with_both (ascii ",") (f (get_or xs i d)) _

-- the texts of a list, and the next behind them
each_more : {A : Type 0} (f : A → List ℕ) (xs : List A) (x : A) → each f (xs ++ (x ∷ [])) ≡ each f xs ++ f x
unfolding each
each_more f [] x = append-nil (f x)
each_more f (y ∷ xs) x = rw (each_more f xs x) (sym (append_assoc (f y) (each f xs) (f x)))

pub one_text : {A : Type 0} (f : A → List ℕ) (xs : List A) (d : A) (i : ℕ) (pen : Pen) → i < length xs
    → with_text (each f (take (i + 1) xs)) pen ≡ with_text (f (get_or xs i d)) (with_text (each f (take i xs)) pen)
one_text f xs d i pen h =
    rw (add-one, take-suc xs i d h) (ap (λ t. with_text t pen) (each_more f (take i xs) (get_or xs i d)) ∙ with_both _ _ pen)

pub refused_length : (n : ℕ) → length (refused_text n) ≤ 19
unfolding refused_text
refused_length n = rw line_length (omega (arith, ten_digits n))
