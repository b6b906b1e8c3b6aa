-- What the tests of two policies' parts say.
use Rattle.std.specs.Prelude.{Bool, false, ◌&&◌, List, [], ◌∷◌, ◌↔◌, ◌≡◌, ◌≢◌, refl, length, T}
use Rattle.std.specs.List.{list_all, zip}
use Rattle.std.specs.Cmp.Lexicographic.{pointwise, unequal}
use Rattle.std.proofs.Common.{ap, sym, subst, ◌∙◌, arith}
use Rattle.policy.specs.declared.Policy.{Policy}
use Rattle.policy.specs.declared.Action.{Action}
use Rattle.alike.specs.Comparable.{Comparable, comparable, same_but_weight}
use Rattle.alike.specs.Laws.{comparable_iff}

-- as many actions are the same but for their weights where each pair is
paired : (l m : List Action) → length l ≡ length m
    → list_all (λ p. same_but_weight p.0 p.1) (zip l m) ≡ pointwise same_but_weight l m
paired [] [] same = refl
paired [] (y ∷ m) same = absurd (omega arith)
paired (x ∷ l) [] same = absurd (omega arith)
paired (x ∷ l) (y ∷ m) same = ap (λ b. same_but_weight x y && b) (paired l m (omega arith))

pub by_pairs : {b : Bool} (l m : List Action) → length l ≡ length m
    → b ≡ list_all (λ p. same_but_weight p.0 p.1) (zip l m) → b ≡ pointwise same_but_weight l m
by_pairs l m same e = e ∙ paired l m same

-- and others are not
pub unlike : (l m : List Action) → length l ≢ length m → false ≡ pointwise same_but_weight l m
unlike l m other = sym (unequal same_but_weight l m other)

-- what equals the test of two policies passes just where they are comparable
pub decides : {b : Bool} (p p' : Policy) → b ≡ comparable p p' → T b ↔ Comparable p p'
decides p p' e = subst (λ b. T b ↔ Comparable p p') (sym e) (comparable_iff p p')
