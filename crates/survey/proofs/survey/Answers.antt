-- `survey` goes through the words in rising order: those below are right, and so is the next.
use Rattle.std.proofs.Common.{ℕ, ◌≤◌, ◌<◌, ◌≡◌, ◌∙◌, refl, ap, arith, length, pow_mono}
use Rattle.std.proofs.lemmas.List.{length-replicate, length-take}
use Rattle.policy.specs.Laws.{accepted_range}
use Rattle.covers.specs.Covers.{word_count}
use Rattle.covers.specs.Laws.Marks.{table_none, table_more, table_next}
use Rattle.covers.specs.Laws.Slim.{slim_word}
use Rattle.survey.proofs.Surveyed.{weighed_none, weighed_at, weighed_all}
use Rattle.survey.proofs.survey.Goals.{In-loop-n}
use Rattle.survey.proofs.survey.Goals as goal

pub loop-n-init : goal.loop-n-init
loop-n-init c = record {
  same = refl;
  covered = table_none (length-replicate {A = ℕ} 1024 0);
  slim = table_none c.told-slim;
  found = weighed_none _ _;
}

-- the word in hand is one of 1,024
below : (c : In-loop-n) → c.loop-n.n < 1024
below c =
    let few : length c.actions.result.now ≤ 16 = omega (arith, c.actions.ensures.long) in
    omega (arith, c.loop-n-test.true, c.words_of-n-end.ensures, pow_mono few)

pub weigh-found-requires : goal.weigh-found-requires
weigh-found-requires c =
    let so = c.loop-n.invariant in
    let members = rw so.same at c.members.ensures.members in
    rw (c.members.ensures.same_plan ∙ so.same) (record {
      marks = slim_word so.covered (below (goal.at.weigh-found-requires c).In-loop-n) c.low-low.ensures members c.step-next.ensures.slim_value;
      surveyed = so.found;
    })

pub loop-n-preserved : goal.loop-n-preserved
loop-n-preserved c =
    let so = c.loop-n.invariant in
    let few = below (goal.at.loop-n-preserved c).In-loop-n in
    let members = rw so.same at c.members.ensures.members in
    let same = c.members.ensures.same_plan ∙ so.same in
    record {
      same = same;
      covered = table_next so.covered few c.low-low.ensures members c.step-next.ensures.covered_value;
      slim = table_more so.slim few (slim_word so.covered few c.low-low.ensures members c.step-next.ensures.slim_value);
      found = weighed_at (rw same at c.weigh-found.ensures) (omega arith);
    }

pub returns-clause-so_far : goal.returns-clause-so_far
returns-clause-so_far c =
    let p = c.args.words.now.plan.policy in
    let range = accepted_range _ _ c.args.words.now.plan.accepted in
    let all : length c.actions.result.now ≡ p.actions = omega (arith, range.actions, c.actions.ensures.long) in
    let full : p.actions ≤ length p.action =
    omega (arith, all, ap length c.actions.ensures.value, length-take p.actions p.action) in
    let words : c.words_of-n-end.result ≡ word_count p.actions = c.words_of-n-end.ensures ∙ ap word_count all in
    weighed_all _ c.loop-n.invariant.found (omega (arith, words)) range full
