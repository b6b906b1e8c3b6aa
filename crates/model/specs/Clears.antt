-- Whether a set of actions clears what a query wants.
use Rattle.std.specs.Prelude.{ℕ, Bool, ◌&&◌, not, List, eqb, length}
use Rattle.mask.specs.Mask.{disjoint}
use Rattle.policy.specs.declared.Policy.{Policy}
use Rattle.policy.specs.declared.Query.{Query}
use Rattle.model.specs.World.{world_of}
use Rattle.model.specs.Fire.{fired_of}

module _ (p : Policy) (q : Query) where
  -- the rules fired for s; the list is empty where s is not enough
  unfoldable pub fired_for : ℕ → List ℕ
  fired_for s = fired_of p (world_of p q.done s) q.want

  unfoldable pub enough : ℕ → Bool
  enough s = not (eqb (length (fired_for s)) 0)

  -- s shares nothing with done and is enough
  unfoldable pub clears : ℕ → Bool
  clears s = disjoint s q.done && enough s
