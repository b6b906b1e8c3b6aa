-- Records that agree below their counts are written alike.
use Rattle.std.specs.Prelude.{ℕ, ◌≡◌, length, take}
use Rattle.std.proofs.Common.{sym, ◌∙◌, ap₂, le_refl, take-take}
use Rattle.policy.specs.declared.Policy.{Policy}
use Rattle.policy.specs.declared.Rule.{Rule}
use Rattle.policy.specs.Record.{cut_rule, cut, Agree, rules_of}
use Rattle.policy.specs.Questions.{first_no, query_in_range, queries_in_range}
use Rattle.policy.specs.Laws.Cut.{listed_cut, levels_cut, actions_cut, rules_cut, questions_cut}
use Rattle.policy.specs.declared.Queries.{Queries}
use Rattle.engine.specs.Laws.Alike.{refused_same}
use Rattle.format.specs.Written.{rule_text, entries_text, file_of}
use Rattle.format.specs.Laws.Stated.{texts_same}
use Rattle.writer.specs.Writing.{cut_queries, AgreeQueries, file_text, write_questions, write_of, write_after}
use Rattle.writer.specs.Claim.{SameFile}

rule_text_cut : (r : Rule) → rule_text (cut_rule r) ≡ rule_text r
unfolding rule_text
rule_text_cut r = rw (listed_cut r.ifs, listed_cut r.unless)

module _ (p : Policy) (qs : Queries) where
  queries_cut : take qs.count (cut_queries qs).at ≡ take qs.count qs.at
  queries_cut = take-take qs.count qs.count qs.at (le_refl qs.count)

  -- the file shows no entry past a count
  text_cut : file_text (cut p) (cut_queries qs) ≡ file_text p qs
  unfolding file_of entries_text
  text_cut = rw (levels_cut p, actions_cut p, rules_cut p, texts_same rule_text cut_rule rule_text_cut (rules_of p), queries_cut)

  -- and the questions look at none
  range_cut : queries_in_range (cut p) (cut_queries qs) ≡ queries_in_range p qs
  unfolding queries_in_range query_in_range
  range_cut = rw queries_cut

  asked_cut : (places : ℕ) → first_no (write_questions (cut p) (cut_queries qs) places) ≡ first_no (write_questions p qs places)
  unfolding write_questions
  asked_cut places = rw range_cut (questions_cut p (queries_in_range p qs) _ _ (λ t. rw text_cut))

  cut_same : SameFile (cut p) (cut_queries qs) p qs
  unfolding write_of write_after
  cut_same = record {
    bytes = text_cut;
    answer = λ places. refused_same _ _ _ _ _ (asked_cut places) (λ e. rw text_cut);
    after = λ before. refused_same _ _ _ _ _ (asked_cut (length before)) (λ e. rw text_cut);
  }

pub same : (p p' : Policy) (qs qs' : Queries) → Agree p p' → AgreeQueries qs qs' → SameFile p qs p' qs'
same p p' qs qs' e f = let a = cut_same p qs in let b = cut_same p' qs' in record {
  bytes = sym a.bytes ∙ ap₂ file_text e f ∙ b.bytes;
  answer = λ places. sym (a.answer places) ∙ ap₂ (λ r q. write_of r q places) e f ∙ b.answer places;
  after = λ before. sym (a.after before) ∙ ap₂ (λ r q. write_after r q before) e f ∙ b.after before;
}
