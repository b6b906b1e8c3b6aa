-- `threshold::queries` meets its contract.
use Prim.Native.Nat.{ℕ}
use mathlib.Core.List.{◌∷◌}
use lib.ListN.{replicate}
use Rattle.base.specs.Lists.{filled}
use Rattle.policy.specs.declared.Query.{Query}
use Rattle.policy.specs.declared.Queries.{Queries}
use Rattle.reader.specs.File.{reading_of}
use Rattle.threshold.specs.AtLeast.{eight, stated}
use Rattle.threshold.proofs.queries.Goals as goal

-- a query that wants this decision, and the queries past it
wanting : Query → ℕ → Queries
wanting q d = record { count = 1; at = record { want = d; done = q.done } ∷ replicate 63 q }

pub returns : goal.returns
unfolding stated eight reading_of filled wanting
returns c = λ i. wanting (c.zero_query-at.ensures i) (c.number.ensures i)
