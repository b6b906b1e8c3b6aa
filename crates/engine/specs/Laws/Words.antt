-- The words of sixty-four sets say what Judge says of each set, with the word's decision as want.
use Prim.Native.Nat.{ℕ, zero, suc, ◌^◌, ◌≤◌, ◌<◌}
use Rattle.std.specs.Prelude.{Bool, false, ◌&&◌, ◌≡◌, ltb, get_or, Ok}
use Rattle.std.proofs.Math.Bool.{and-true, and-false}
use Rattle.std.proofs.Math.Path.{refl, sym, ap, subst}
use Rattle.std.proofs.Common.{◌∙◌, arith, lt→ltb}
use Rattle.std.proofs.Math.Decide.{dec_lt, ℕ_discrete}
use borrow.Author.Tests.{lt-ltb, le-ltb, le-leb, lt-leb}
use Rattle.std.proofs.Math.Dec.{T, leb, ltb→lt, leb→le}
use Rattle.std.proofs.Math.ListN.{replicate, get_or-eq_default}
use Rattle.std.proofs.lemmas.List.{length-replicate}
use Rattle.base.specs.Laws.Tables.{table_length}
use Rattle.base.specs.Laws.Tests.{is_true, is_false, and_make, and_left, and_right, get_or_filled}
use Rattle.mask.specs.Mask.{has, disjoint, is_mask}
use Rattle.mask.specs.Laws.{disjoint_iff, has_none}
use Rattle.mask.specs.Laws.Packed.{packed_bit, packed_same}
use Rattle.policy.specs.declared.Policy.{Policy}
use Rattle.policy.specs.declared.Query.{Query}
use Rattle.policy.specs.Questions.{first_no, questions, query_in_range, query_questions, is_decision, Accepted}
use Rattle.policy.specs.Laws.{first_no_zero, accepted, answers, answered_with, accepted_range}
use Rattle.weight.specs.Cost.{cost_of}
use Rattle.columns.specs.Sets.{set_at}
use Rattle.columns.specs.Laws.Columns.{none_set}
use Rattle.words.specs.Models.{asking, bit_of, word_of, model_of}
use Rattle.words.specs.Laws.Worked.{model_at}
use Rattle.engine.specs.declared.WordModel.{WordModel}
use Rattle.engine.specs.Sets.{Offered}
use Rattle.engine.specs.Calls.{refused_or, enough, clears}
use Rattle.engine.specs.Words.{word_questions, words_of, SaysWords, SixtyFour}
use Rattle.engine.specs.Laws.{judge_is}
use Rattle.engine.specs.Laws.Decide.{enough_iff}
use Rattle.engine.specs.Laws.Refusals.{answered, refused}

-- no bit of 0 is set
zero_bit : (i : ℕ) → has 0 i ≡ false
zero_bit i = is_false (has 0 i) (has_none i)

module _ (p : Policy) (q : Query) where
  -- another decision may be wanted
  asking_fits : Accepted p q → (d : ℕ) → d < p.decisions → T (query_in_range p (asking q d))
  unfolding query_in_range
  asking_fits ok d h = and_make (is_decision p.decisions d) (is_mask p.actions q.done) (lt→ltb d p.decisions h)
      (and_right (is_decision p.decisions q.want) (is_mask p.actions q.done) (accepted p q ok).given)

  pub asking_accepted : Accepted p q → (d : ℕ) → d < p.decisions → Accepted p (asking q d)
  unfolding Accepted
  asking_accepted ok d h =
      first_no_zero (query_questions p (asking q d)) (answered_with (accepted p q ok) (query_in_range p (asking q d)) (asking_fits ok d h))

  module _ (w : ℕ) where
    pub word_accepted : first_no (word_questions p q w) ≡ 0 → Accepted p q × (w ≤ 1023)
    unfolding word_questions Accepted
    word_accepted e =
        let known = answers p (query_in_range p q && leb w 1023) e in (
          first_no_zero (query_questions p q) (answered_with known (query_in_range p q)
              (and_left (query_in_range p q) (leb w 1023) known.given)),
          leb→le w 1023 (and_right (query_in_range p q) (leb w 1023) known.given),
        )

    -- a word of the model, bit by bit; past 128 there is none
    model_bit : (d i : ℕ) → d < 128 → i < 64 → has (get_or (model_of p q w) d 0) i ≡ bit_of p q w d i
    unfolding word_of
    model_bit d i h k = ap (λ (x : ℕ). has x i) (model_at p q w h) ∙ packed_bit 64 (bit_of p q w d) i k

    model_end : (d : ℕ) → ¬ (d < 128) → get_or (model_of p q w) d 0 ≡ 0
    unfolding model_of
    model_end d h = get_or-eq_default (model_of p q w) 0 (omega (arith, table_length 128 (word_of p q w)))

    -- the bit of an offered set is what Judge says of it with d as want
    bit_enough : (d i : ℕ) → d < p.decisions → d < 128 → i < 64 → Offered p q (set_at w i)
        → has (get_or (model_of p q w) d 0) i ≡ enough p (asking q d) (set_at w i)
    unfolding bit_of clears
    bit_enough d i h l k o = model_bit d i l k ∙ rw (
      lt-ltb d p.decisions h,
      lt-ltb (set_at w i) (2 ^ p.actions) o.set,
      is_true (disjoint (set_at w i) q.done) ((disjoint_iff (set_at w i) q.done).1 o.apart),
    ) refl

    -- a set whose bit is set is offered
    bit_offered : (d i : ℕ) → T (bit_of p q w d i) → Offered p q (set_at w i)
    unfolding bit_of clears
    bit_offered d i t =
        let rest = and_right (ltb d p.decisions) (ltb (set_at w i) (2 ^ p.actions) && clears p (asking q d) (set_at w i)) t in
        record {
          set = ltb→lt (set_at w i) (2 ^ p.actions) (and_left (ltb (set_at w i) (2 ^ p.actions))
              (clears p (asking q d) (set_at w i)) rest);
          apart = (disjoint_iff (set_at w i) q.done).0 (and_left (disjoint (set_at w i) q.done) (enough p (asking q d) (set_at w i))
              (and_right (ltb (set_at w i) (2 ^ p.actions)) (clears p (asking q d) (set_at w i)) rest));
        }

    -- words past the decision count are 0
    word_none : (d : ℕ) → p.decisions ≤ d → word_of p q w d ≡ 0
    unfolding word_of bit_of
    word_none d g = packed_same 64 (bit_of p q w d) (λ i. false) (λ i k. rw (le-ltb d p.decisions g) refl) ∙ sym none_set

    says_answered : first_no (word_questions p q w) ≡ 0 → SaysWords p q w (record { refusal = 0; word = model_of p q w })
    unfolding model_of
    says_answered e = record {
      judged = λ z d i h k o.
          let ok = (word_accepted e).0 in
          let s : ℕ = set_at w i in
          let fine = asking_accepted ok d h in
          let offer : Offered p (asking q d) s = record { set = o.set; apart = o.apart } in
          let is = bit_enough d i h (omega (arith, (accepted_range p q ok).decisions)) k o in
          let means = enough_iff p (asking q d) fine s offer in (
            judge_is p (asking q d) fine s offer ∙ ap (λ (b : Bool). Ok (record { enough = b; cost = cost_of p s })) (sym is),
            (λ t. means.0 (subst T is t), λ t. subst T (sym is) (means.1 t)),
          );
      shut = λ d i k n. elim (dec_lt d 128) [
        | yes h ↦ model_bit d i h k ∙ is_false (bit_of p q w d i) (λ t. n (bit_offered d i t))
        | no h ↦ ap (λ (x : ℕ). has x i) (model_end d h) ∙ zero_bit i
      ];
      past = λ d g. elim (dec_lt d 128) [
        | yes h ↦ model_at p q w h ∙ word_none d g
        | no h ↦ model_end d h
      ];
      places = table_length 128 (word_of p q w);
      refused = λ n. absurd (n refl);
    }

    says_refused : (n : ℕ) → first_no (word_questions p q w) ≡ n → ¬ (n ≡ 0) → SaysWords p q w
        (record { refusal = n; word = replicate 128 0 })
    says_refused n e ne = record {
      judged = λ z. absurd (ne z);
      shut = λ d i k h. ap (λ (x : ℕ). has x i) (get_or_filled {A = ℕ} 128 d 0) ∙ zero_bit i;
      past = λ d h. get_or_filled {A = ℕ} 128 d 0;
      places = length-replicate {A = ℕ} 128 0;
      refused = λ h. ((e, ne), refl);
    }

    pub says_words : SaysWords p q w (words_of p q w)
    unfolding words_of
    says_words = elim (ℕ_discrete (first_no (word_questions p q w)) 0) [
      | yes e ↦ subst (SaysWords p q w) (sym (answered _ _ _ e)) (says_answered e)
      | no ne ↦ subst (SaysWords p q w) (sym (refused _ _ _ ne)) (says_refused _ refl ne)
    ]

    -- the refusal is that of the questions
    refusal_is : (words_of p q w).refusal ≡ first_no (word_questions p q w)
    unfolding words_of refused_or
    refusal_is = case (first_no (word_questions p q w))
      where
        answer : ℕ → WordModel
        answer n = refused_or n (λ k. record { refusal = k; word = replicate 128 0 }) (record { refusal = 0; word = model_of p q w })

        case : (n : ℕ) → (answer n).refusal ≡ n
        case zero = refl
        case (suc n) = refl

pub sixty_four : (p : Policy) (q : Query) (w : ℕ) → SixtyFour p q w
unfolding words_of word_questions questions first_no model_of word_of bit_of
sixty_four p q w = record {
  says = says_words p q w;
  asked = λ h. refusal_is p q w ∙ rw (le-leb w 1023 h, and-true) refl;
  three = λ h. refusal_is p q w ∙ rw (lt-leb w 1023 h, and-false, and-false) refl;
  unread = λ ok d h. rw (
    is_true (query_in_range p (asking q d)) (asking_fits p q ok d h),
    is_true (query_in_range p q)
        (accepted p q ok).given,
  ) refl;
}
