-- At first no word is known; and then one more.
use Rattle.std.specs.Prelude.{ℕ, Option, Some, None, List, ◌≡◌, get_or, set, replicate}
use Rattle.std.proofs.Common.{sym, ◌∙◌, ap, arith, get_or-set_same, get_or-set_other, length}
use Rattle.std.proofs.Math.Seq.{set_out}
use Rattle.std.proofs.Math.Decide.{ℕ_discrete, dec_lt}
use Rattle.base.specs.Laws.Tests.{get_or_filled}
use Rattle.policy.specs.declared.Policy.{Policy}
use Rattle.policy.specs.declared.Query.{Query}
use Rattle.words.specs.Models.{word_of}
use Rattle.words.specs.Known.{Known}

module _ (p : Policy) (q : Query) where
  pub known_none : Known p q (replicate 1024 None)
  known_none = record { right = λ w word e. let none = get_or_filled {A = Option ℕ} 1024 w None in cc }

  pub known_more : {known : List (Option ℕ)} → Known p q known → (n word : ℕ) → word ≡ word_of p q n q.want
      → Known p q (set known n (Some word))
  known_more {known} so n word e = record {
    right = λ w x f. elim (ℕ_discrete w n) [
      | yes same ↦ elim (dec_lt n (length known)) [
        | yes h ↦
            let here : get_or (set known n (Some word)) w None ≡ Some word =
            ap (λ (i : ℕ). get_or (set known n (Some word)) i None) same ∙ get_or-set_same known n (Some word) None h in
            let same_word : x ≡ word = cc in
            same_word ∙ e ∙ ap (λ (i : ℕ). word_of p q i q.want) (sym same)
        | no h ↦ so.right w x (sym (ap (λ (l : List (Option ℕ)). get_or l w None) (set_out known n (Some word) (omega arith))) ∙ f)
      ]
      | no other ↦ so.right w x (sym (get_or-set_other known n w (Some word) None other) ∙ f)
    ];
  }
