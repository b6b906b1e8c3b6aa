-- What the words of a query are worked from, and when they are worked.
use Rattle.std.specs.Prelude.{ℕ, ◌^◌, ◌<◌, List, ◌≡◌, length, get_or}
use Rattle.base.specs.Lists.{table}
use Rattle.policy.specs.declared.Policy.{Policy}
use Rattle.policy.specs.declared.Query.{Query}
use Rattle.policy.specs.Record.{level_of}
use Rattle.model.specs.World.{world_in}
use Rattle.order.specs.Order.{Ordered, Used}
use Rattle.words.specs.Models.{word_of}

-- the words of the decisions of the first n levels are those of the definition, and words past the decision count too
pub record Worked (p : Policy) (q : Query) (w n : ℕ) (held : List ℕ) : Type 0 where
  pub size : length held ≡ 128
  pub words : (d : ℕ) → (d < p.decisions → level_of p d < n) → get_or held d 0 ≡ word_of p q w d

-- what the words of a query are worked from: what is in every world, what each action leads to by itself, an order of the rules
pub record Planned (p : Policy) (q : Query) (base : ℕ) (leads order start uses : List ℕ) : Type 0 where
  pub based : base ≡ world_in p.action p.actions q.done 0
  pub led : leads ≡ table 16 (λ a. world_in p.action p.actions 0 (2 ^ a))
  pub ordered : Ordered p order start
  pub used : Used p order uses
