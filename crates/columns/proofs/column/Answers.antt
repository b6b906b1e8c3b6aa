-- The lowest six actions are those of the table, the others those of w.
use mathlib.Core.Bool.{true, false}
use mathlib.Core.Path.{sym, ◌∙◌}
use native.Mathlib.Omega.{arith}
use Rattle.columns.specs.Laws.Columns.{lows, low_column, all_set, none_set, high_column}
use Rattle.columns.proofs.column.Goals as goal

pub returns-then-a-lt6 : goal.returns-then-a-lt6
unfolding lows
returns-then-a-lt6 c = low_column _ _ c.if-a-lt6.true

pub returns-then-has : goal.returns-then-has
returns-then-has c = all_set ∙ high_column _ _ true (omega arith) (sym c.has.ensures ∙ c.if-has.true)

pub returns-else-has : goal.returns-else-has
returns-else-has c = none_set ∙ high_column _ _ false (omega arith) (sym c.has.ensures ∙ c.if-has.false)
