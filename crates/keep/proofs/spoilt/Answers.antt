-- `spoilt` takes away the sets that clear, where any is to be looked at.
use Rattle.keep.specs.Laws.Spoilt.{members_none, members_fresh}
use Rattle.keep.proofs.spoilt.Goals as goal

pub returns-then-fresh-eq0 : goal.returns-then-fresh-eq0
returns-then-fresh-eq0 c =
    members_none _ _ c.args.words.now.plan.accepted _ _ _ (rw (← c.offered.ensures, ← c.holding.ensures) c.if-fresh-eq0.true)

pub returns : goal.returns
returns c = rw (c.offered.ensures, c.holding.ensures) (members_fresh _ _ c.args.words.now.plan.accepted _ _ _ c.recalled.ensures)
