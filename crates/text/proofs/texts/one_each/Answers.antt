-- `one_each` meets its contract: the entry's text is put, or no entry is left.
use Rattle.std.proofs.Common.{refl, rules}
use Rattle.text.specs.Put.{with_text}
use Rattle.text.specs.Laws.Handed.{each_over, each_put}
use Rattle.text.proofs.texts.one_each.Goals as goal

pub returns-in_err-entry : goal.returns-in_err-entry
returns-in_err-entry g c = rw c.from_residual.ensures (each_over (g.T.EntryText.entry_text c.args.of.now) refl _ _ c.in_err-entry.ensures.lookup)

pub returns : goal.returns
unfolding with_text
returns g c = each_put (g.T.EntryText.entry_text c.args.of.now) refl _ _ c.in_ok-entry.entry c.in_ok-entry.ensures.lookup (search rules)
