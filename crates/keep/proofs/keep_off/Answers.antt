-- `keep_off` marks and searches: `Marked` says that this finds the mask.
use Rattle.std.proofs.Common.{sym, ◌∙◌}
use Rattle.policy.specs.Laws.{accepted_range}
use Rattle.keep.specs.Laws.Marked.{keep_of_is}
use Rattle.keep.proofs.Choosing.{stands_is}
use Rattle.keep.proofs.keep_off.Goals as goal

pub invariant_of-search : goal.invariant_of-search
invariant_of-search c = record { within = (accepted_range _ _ c.args.words.now.plan.accepted).actions }

pub returns : goal.returns
returns c = c.unwrap_or.ensures ∙ stands_is c.fewest.ensures ∙ sym (keep_of_is _ _ _ _ _ c.marks-table.ensures)
