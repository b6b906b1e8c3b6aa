-- The word of the sets that spoil a set, from the words of those that are offered, contain it, and clear.
use Rattle.std.specs.Prelude.{ℕ, ◌^◌, ◌<◌, Bool, ◌&&◌, ◌≡◌, ltb}
use Rattle.std.proofs.Math.Bool.{not}
use Rattle.std.proofs.Common.{sym, ◌∙◌, ap, ltb→lt}
use Rattle.std.proofs.Math.Path.{subst}
use Rattle.std.specs.Int.Bits.{bit_and}
use Rattle.std.proofs.Math.Dec.{T}
use Rattle.base.specs.Laws.Tests.{and_make, and_left, and_right}
use Rattle.mask.specs.Mask.{has, contains, disjoint}
use Rattle.mask.specs.Laws.{has_and, has_none}
use Rattle.mask.specs.Laws.Packed.{minus, has_minus, packed_bit}
use Rattle.policy.specs.declared.Policy.{Policy}
use Rattle.policy.specs.declared.Query.{Query}
use Rattle.policy.specs.Questions.{Accepted}
use Rattle.model.specs.Clears.{clears}
use Rattle.columns.specs.Sets.{set_at, is_offered, offered_of, holding_of}
use Rattle.words.specs.Models.{word_of}
use Rattle.words.specs.Laws.Wanted.{clears_bit}
use Rattle.covers.specs.Covers.{Members}
use Rattle.keep.specs.Keep.{spoilt}

module _ (p : Policy) (q : Query) (ok : Accepted p q) (s w low : ℕ) where
  abbrev spoils : ℕ → Bool
  spoils = spoilt (clears p q) p.actions s q.done

  -- the offered sets that contain s, and those of them that are not in `low`
  abbrev larger : ℕ
  larger = bit_and (offered_of p.actions q.done w) (holding_of s w)

  abbrev pub fresh : ℕ
  fresh = minus larger low

  module _ (i : ℕ) (h : i < 64) where
    abbrev offered : Bool
    offered = is_offered p.actions q.done (set_at w i)

    abbrev holds : Bool
    holds = contains (set_at w i) s

    fresh_bit : has fresh i ≡ ((offered && holds) && not (has low i))
    unfolding offered_of holding_of
    fresh_bit = has_minus larger low i ∙ rw (
      has_and (offered_of p.actions q.done w) (holding_of s w) i,
      packed_bit 64 (λ j. is_offered p.actions q.done (set_at w j)) i h,
      packed_bit 64 (λ j. contains (set_at w j) s) i h,
    )

    -- what is fresh is offered, and contains s
    fresh_both : T (has fresh i) → T (offered && holds)
    fresh_both t = and_left (offered && holds) (not (has low i)) (subst T fresh_bit t)

    -- what spoils s and is not in `low` is fresh
    spoils_fresh : T (spoils (set_at w i)) → T (not (has low i)) → T (has fresh i)
    unfolding spoilt
    spoils_fresh t new = subst T (sym fresh_bit) (and_make (offered && holds) (not (has low i))
        (and_make offered holds (and_left offered (holds && not (clears p q (set_at w i))) t)
        (and_left holds (not (clears p q (set_at w i))) (and_right offered (holds && not (clears p q (set_at w i))) t))) new)

    -- of an offered set the word of the decision wanted says whether it clears
    clears_is : T offered → has (word_of p q w q.want) i ≡ clears p q (set_at w i)
    clears_is t = clears_bit p q ok w i h
        (ltb→lt (set_at w i) (2 ^ p.actions) (and_left (ltb (set_at w i) (2 ^ p.actions)) (disjoint (set_at w i) q.done) t))

  -- where nothing is fresh, nothing need be looked at
  pub members_none : fresh ≡ 0 → Members spoils w low 0
  members_none e = record {
    only = λ i h t. absurd (has_none i t);
    all = λ i h t new. subst (λ (x : ℕ). T (has x i)) e (spoils_fresh i h t new);
  }

  -- else the fresh sets that do not clear are those that spoil s
  pub members_fresh : {word : ℕ} → word ≡ word_of p q w q.want → Members spoils w low (minus fresh word)
  unfolding spoilt
  members_fresh {word} e = record {
    only = λ i h t.
        let there = rw (has_minus fresh word i) at t in
        let both = fresh_both i h (and_left (has fresh i) (not (has word i)) there) in
        let on : T (offered i h) = and_left (offered i h) (holds i h) both in
        and_make (offered i h) (holds i h && not (clears p q (set_at w i))) on
        (and_make (holds i h) (not (clears p q (set_at w i))) (and_right (offered i h) (holds i h) both)
        (subst (λ (b : Bool). T (not b)) (ap (λ (x : ℕ). has x i) e ∙ clears_is i h on)
        (and_right (has fresh i) (not (has word i)) there)));
    all = λ i h t new.
        let on : T (offered i h) = and_left (offered i h) (holds i h && not (clears p q (set_at w i))) t in
        rw (has_minus fresh word i) (and_make (has fresh i) (not (has word i)) (spoils_fresh i h t new)
        (subst (λ (b : Bool). T (not b)) (sym (ap (λ (x : ℕ). has x i) e ∙ clears_is i h on))
        (and_right (holds i h) (not (clears p q (set_at w i))) (and_right (offered i h) (holds i h && not (clears p q (set_at w i))) t))));
  }
