-- The level of the decision wanted is worked.
use Rattle.std.proofs.Common.{◌≤◌, ◌<◌, arith}
use Rattle.policy.specs.declared.Policy.{Policy}
use Rattle.policy.specs.declared.Query.{Query}
use Rattle.policy.specs.Questions.{Accepted}
use Rattle.policy.specs.Record.{level_of}
use Rattle.policy.specs.Laws.{accepted_range, accepted_want}
use Rattle.words.proofs.plan.Plan.wanted.Goals as goal

-- want is a decision, of a level up to 15
small : (p : Policy) (q : Query) → Accepted p q → q.want < 128
small p q ok = omega (arith, accepted_want p q ok, (accepted_range p q ok).decisions)

level : (p : Policy) (q : Query) → Accepted p q → level_of p q.want ≤ 15
level p q ok = (accepted_range p q ok).level _ (accepted_want p q ok)

pub bounds-self-want : goal.bounds-self-want
bounds-self-want c = small _ _ c.args.self.now.accepted

pub worked-words-requires : goal.worked-words-requires
worked-words-requires c = omega (arith, level _ _ c.args.self.now.accepted)

pub bounds-words-want : goal.bounds-words-want
bounds-words-want c = small _ _ c.args.self.now.accepted
