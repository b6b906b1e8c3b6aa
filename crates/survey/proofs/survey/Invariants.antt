-- `survey` goes through the words in rising order: those below are right, and so is the next.
use Rattle.std.proofs.Common.{◌≡◌, ◌*◌}
use Rattle.mask.specs.Family.{minimal}
use Rattle.mask.specs.Laws.Minimal.{covered as is_covered}
use Rattle.covers.specs.Covers.{Table}
use Rattle.survey.specs.Survey.{family, Surveyed}
use Rattle.survey.proofs.survey.Given as goal

abbrev pub invariant-loop-n : goal.invariant-loop-n
invariant-loop-n l = let plan = l.initial.words.plan in record {
  same : l.words.plan ≡ plan;
  covered : Table (is_covered (family plan.policy plan.query)) l.n l.covered;
  slim : Table (minimal (family plan.policy plan.query)) l.n l.slim;
  found : Surveyed plan.policy plan.query (64 * l.n) l.found;
}
