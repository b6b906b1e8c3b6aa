-- `weigh` takes the slim sets of a word in turn.
use Rattle.std.proofs.Common.{◌≡◌, ◌+◌, ◌*◌}
use Rattle.survey.specs.Survey.{Surveyed}
use Rattle.survey.proofs.Filtering.{Filtering}
use Rattle.survey.proofs.weigh.Given as goal

abbrev pub invariant-loop-i : goal.invariant-loop-i
invariant-loop-i l =
    Filtering (λ f. f.0.now ≡ l.fn.word) (λ i. Surveyed l.plan.policy l.plan.query (64 * l.w.w + i) l.all) 64 l.i-iterator.iter l.i-iterator.p
