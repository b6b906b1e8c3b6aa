-- All levels are worked.
use Rattle.words.specs.Laws.Worked.{all_worked}
use Rattle.words.proofs.plan.Plan.model.Goals as goal

pub returns : goal.returns
returns c = all_worked _ _ c.args.self.now.accepted _ c.args.w.within c.worked.ensures
