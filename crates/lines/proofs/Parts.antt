-- The parts of a list, taken one after the other.
use Rattle.std.specs.Prelude.{ℕ, ◌<◌, ◌≡◌, refl, Bool, true, false, List, [], ◌∷◌, ◌++◌, length, map, eqb, get_or, Option, Some, None, Result, Ok, Err, if◌then◌else◌}
use Rattle.std.specs.List.{list_all, slice_split, onto_first}
use Rattle.std.specs.Option.{ok_or}
use Rattle.std.specs.Result.{IsErrAnd}
use Rattle.std.proofs.Common.{arith, sym, ap, ◌∙◌}
use Rattle.std.proofs.lemmas.List.{map-append}
use Rattle.std.proofs.lemmas.List.Splits.{slice_split-cons_yes, slice_split-cons_no}
use Rattle.std.proofs.lemmas.List.Folds.{list_all_at}
use Rattle.std.proofs.lemmas.Iterator.{YieldsList}
use Rattle.std.proofs.lemmas.Iterator.Splits.{YieldsList-from_slice_split}
use Rattle.std.proofs.lemmas.Iterator.Consumers.{YieldsList-turn, YieldsList-end}
use Rattle.std.specs.Iterator.{Yields}
use Rattle.std.specs.Fn.{CalledAt}
use Rattle.std.specs.Slice.Iter.{split_steps, split_rest, split_done, split_callee}
use Rattle.std.specs.declared.slice.Split.{Split}
use Rattle.std.proofs.Common.{Bor}
use denote.Param.Members.{Mut}
use Rattle.base.specs.Laws.Tests.{every_snoc}
use Rattle.policy.specs.declared.Decisions.{Decisions}
use Rattle.policy.specs.declared.refusal.Refusal.{Refusal}
use Rattle.policy.specs.declared.refusal.Refusal.TheVariants.{Malformed, OutOfRange}
use Rattle.format.specs.Format.{is_number, spelt, push, cut, parts, is_list, decisions_of}
use Rattle.lines.specs.Outcomes.{list_in, with}
use Rattle.lines.proofs.OneMore.{held, held_more}

-- std cuts contents at each comma as `cut` does
pub split_is_cut : (c : List ℕ) → slice_split (λ b. eqb b 44) c ≡ cut c
unfolding cut
split_is_cut [] = refl
split_is_cut (b ∷ c) = go (eqb b 44) refl (split_is_cut c)
  where
    go : (t : Bool) → eqb b 44 ≡ t → slice_split (λ b. eqb b 44) c ≡ cut c →
        slice_split (λ b. eqb b 44) (b ∷ c) ≡ elim t [ true ↦ [] ∷ cut c | false ↦ push b (cut c) ]
    go true e ih = slice_split-cons_yes (λ b. eqb b 44) b c e ∙ ap (λ l. [] ∷ l) ih
    go false e ih = slice_split-cons_no (λ b. eqb b 44) b c e ∙ ap (onto_first b) ih ∙ pushed (cut c)
      where
        pushed : (ps : List (List ℕ)) → onto_first b ps ≡ push b ps
        pushed [] = refl
        pushed (p ∷ ps) = refl

-- the parts that a closure's test cuts, as a loop takes them
module _ {F : Type 0} {g : Mut F (Bor ℕ × Unit {0}) Bool} (s : Split ℕ F) (c : List ℕ)
    (e : (split_rest s ≡ c) × (split_done s ≡ false))
    (test : (b : ℕ) (a : Bool) (q : F) → CalledAt g (split_callee s) b a q → (q ≡ split_callee s) × (a ≡ eqb b 44)) where
  all : YieldsList (split_steps g) (λ p. p.now) s (cut c)
  all = rw (← split_is_cut c) (YieldsList-from_slice_split g (λ b. eqb b 44) c e.0 e.1 refl test)

-- the part that is read next, and all parts where none is left
pub part_read : {F : Type 0} {g : Mut F (Bor ℕ × Unit {0}) Bool} (s t u : Split ℕ F) (c : List ℕ) (ps : List (Bor (List ℕ))) (r : Option (Bor (List ℕ)))
    → Yields (split_steps g) s ps t → split_steps g t r u → (split_rest s ≡ c) × (split_done s ≡ false)
    → ((b : ℕ) (a : Bool) (q : F) → CalledAt g (split_callee s) b a q → (q ≡ split_callee s) × (a ≡ eqb b 44))
    → {p : Bor (List ℕ)} → r ≡ Some p → (length ps < length (cut c)) × (p.now ≡ get_or (cut c) (length ps) p.now)
part_read s t u c ps r y k e test {p} h = YieldsList-turn (all s c e test) ps t y r u p h k

pub parts_read : {F : Type 0} {g : Mut F (Bor ℕ × Unit {0}) Bool} (s t u : Split ℕ F) (c : List ℕ) (ps : List (Bor (List ℕ))) (r : Option (Bor (List ℕ)))
    → Yields (split_steps g) s ps t → split_steps g t r u → (split_rest s ≡ c) × (split_done s ≡ false)
    → ((b : ℕ) (a : Bool) (q : F) → CalledAt g (split_callee s) b a q → (q ≡ split_callee s) × (a ≡ eqb b 44))
    → r ≡ None → map (λ p. p.now) ps ≡ cut c
parts_read s t u c ps r y k e test h = (YieldsList-end (all s c e test) ps t y r u h k).0

-- what is known of the parts that were read: they are numbers, and the list holds them where they fit
pub record Read (n : ℕ) (ps : List (List ℕ)) (list : Option Decisions) : Type 0 where
  pub numbers : list_all is_number ps ≡ true
  pub held : list ≡ held n (map (spelt 0) ps)

pub none_read : (n : ℕ) → Read n [] (Some (decisions_of []))
unfolding held is_list
none_read n = record { numbers = refl; held = refl }

module _ {n : ℕ} {ps : List (List ℕ)} {list : Option Decisions} (w : Read n ps list) where
  pub one_read : (p : List ℕ) {d : ℕ} → Ok d ≡ (if is_number p then Ok (spelt 0 p) else Err Malformed) → Read n (ps ++ (p ∷ [])) (with n list d)
  one_read p e = grind (arith, w.numbers, w.held, every_snoc, map-append, held_more)

  pub all_read : {r : Result Decisions Refusal} → r ≡ ok_or list OutOfRange → r ≡ list_in n ps
  unfolding list_in held
  all_read e = grind (arith, w.numbers, w.held)

-- a part that is no number
pub broken : (n : ℕ) (ps : List (List ℕ)) {p : List ℕ} {i : ℕ} {e : Refusal} {r : Result Decisions Refusal} → (i < length ps) × (p ≡ get_or ps i p) →
    Err e ≡ (if is_number p then Ok (spelt 0 p) else Err Malformed) → IsErrAnd r (λ x. x ≡ e) → r ≡ list_in n ps
unfolding list_in
broken n ps {r = Ok l} at e q = absurd q
broken n ps {p} {i} {r = Err x} at e q =
    let no : is_number p ≡ false = grind arith in
    let some : list_all is_number ps ≡ false = list_all_at is_number ps i p at.0 (ap is_number (sym at.1) ∙ no) in
    grind arith

-- contents that are there are cut, and others have no parts
pub some_parts : (c : List ℕ) → false ≡ eqb (length c) 0 → parts c ≡ cut c
unfolding parts
some_parts [] h = absurd (grind arith)
some_parts (b ∷ c) h = refl

pub no_parts : (n : ℕ) (c : List ℕ) {l : Decisions} → true ≡ eqb (length c) 0 → l ≡ decisions_of [] → Ok l ≡ list_in n (parts c)
unfolding parts list_in is_list
no_parts n [] h e = ap (λ l. Ok l) e
no_parts n (b ∷ c) h e = absurd (grind arith)
