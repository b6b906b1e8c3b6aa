-- What a bit of a word says that rules have worked on.
use Rattle.std.specs.Prelude.{ℕ, ◌^◌, ◌<◌, Bool, ◌&&◌, not, ◌≡◌, T, get_or}
use Rattle.std.proofs.Math.Bool.{and-true, and_assoc}
use mathlib.Core.List.{List, [], ◌∷◌}
use Rattle.std.proofs.Math.Path.{refl, sym}
use Rattle.std.proofs.Common.{subst, ◌∙◌}
use Rattle.std.specs.Int.Bits.{bit_and}
use Rattle.std.specs.List.{list_all}
use Rattle.base.specs.Laws.Tests.{and_make, and_left, and_right}
use Rattle.mask.specs.Mask.{has}
use Rattle.mask.specs.Laws.{has_and, has_none, ⊆→<, ⊆_antisym}
use Rattle.mask.specs.Laws.Packed.{minus, has_minus}
use Rattle.policy.specs.declared.Rule.{Rule}
use Rattle.policy.specs.Record.{listed}
use Rattle.settle.specs.Words.{folded, all_of, none_of, added_of}
use Rattle.settle.specs.Right.{bit}

module _ (held : List ℕ) (i : ℕ) where
  -- an operation that keeps a set where the word says g
  folded_bit : (f : ℕ → ℕ → ℕ) (g : Bool → Bool) → ((a b : ℕ) → has (f a b) i ≡ (has a i && g (has b i)))
      → (word : ℕ) (ds : List ℕ) → has (folded f held word ds) i ≡ (has word i && list_all (λ d. g (bit held i d)) ds)
  folded_bit f g e word [] = sym (and-true (has word i))
  folded_bit f g e word (d ∷ ds) = folded_bit f g e (f word (get_or held d 0)) ds
      ∙ rw (e word (get_or held d 0)) (and_assoc (has word i) (g (bit held i d)) (list_all (λ c. g (bit held i c)) ds))

  all_bit : (word : ℕ) (ds : List ℕ) → has (all_of held word ds) i ≡ (has word i && list_all (bit held i) ds)
  all_bit = folded_bit bit_and (λ b. b) (λ a b. has_and a b i)

  none_bit : (word : ℕ) (ds : List ℕ) → has (none_of held word ds) i ≡ (has word i && list_all (λ d. not (bit held i d)) ds)
  none_bit = folded_bit minus not (λ a b. has_minus a b i)

  -- the four tests of a rule: it is enabled, its head is not held, all its ifs are, and none of its unless
  module _ (enabled : ℕ) (r : Rule) where
    abbrev on : Bool
    on = has enabled i

    abbrev fresh : Bool
    fresh = not (bit held i r.head)

    abbrev given : Bool
    given = list_all (bit held i) (listed r.ifs)

    abbrev clear : Bool
    clear = list_all (λ d. not (bit held i d)) (listed r.unless)

    -- all four pass
    pub record Adds : Type 0 where
      pub enables : T on
      pub lacks : T fresh
      pub ifs : T given
      pub unless : T clear

    added_bit : has (added_of held enabled r) i ≡ (((on && fresh) && given) && clear)
    unfolding added_of
    added_bit = none_bit (all_of held (minus enabled (get_or held r.head 0)) (listed r.ifs)) (listed r.unless)
        ∙ rw (all_bit (minus enabled (get_or held r.head 0)) (listed r.ifs), has_minus enabled (get_or held r.head 0) i) refl

    -- a rule adds its head just there
    pub adds : T (has (added_of held enabled r) i) → Adds
    adds t =
        let all : T (((on && fresh) && given) && clear) = subst T added_bit t in
        let three : T ((on && fresh) && given) = and_left ((on && fresh) && given) clear all in
        let two : T (on && fresh) = and_left (on && fresh) given three in
        record {
          enables = and_left on fresh two;
          lacks = and_right on fresh two;
          ifs = and_right (on && fresh) given three;
          unless = and_right ((on && fresh) && given) clear all;
        }

    pub adds_make : Adds → T (has (added_of held enabled r) i)
    adds_make a = subst T (sym added_bit) (and_make ((on && fresh) && given) clear
        (and_make (on && fresh) given (and_make on fresh a.enables a.lacks) a.ifs) a.unless)

-- where no set is left that enables it and does not hold its head, it adds nothing
pub added_none : (held : List ℕ) (enabled : ℕ) (r : Rule) → minus enabled (get_or held r.head 0) ≡ 0 → added_of held enabled r ≡ 0
added_none held enabled r e = ⊆_antisym (added_of held enabled r) 0
    (λ i t. let a = adds held i enabled r t in
    subst (λ (x : ℕ). T (has x i)) e (subst T (sym (has_minus enabled (get_or held r.head 0) i))
    (and_make (has enabled i) (not (bit held i r.head)) a.enables a.lacks)))
    (λ i t. absurd (has_none i t))

-- what a rule adds is a word
pub added_lt : (held : List ℕ) (enabled : ℕ) (r : Rule) → enabled < 2 ^ 64 → added_of held enabled r < 2 ^ 64
added_lt held enabled r h = ⊆→< (added_of held enabled r) enabled 64 (λ i t. (adds held i enabled r t).enables) h
