-- Where the set costs less it comes before the one named so far, and else that one before it.
use Rattle.std.proofs.Common.{arith}
use Rattle.survey.proofs.Surveyed.{more_new, more_old}
use Rattle.survey.proofs.Found.with_one.Goals as goal

pub returns-then-cost-self-clause-more : goal.returns-then-cost-self-clause-more
returns-then-cost-self-clause-more c = more_new c.if-cost-self.true

pub returns-else-cost-self-clause-more : goal.returns-else-cost-self-clause-more
returns-else-cost-self-clause-more c = more_old (omega (arith, c.if-cost-self.false))
