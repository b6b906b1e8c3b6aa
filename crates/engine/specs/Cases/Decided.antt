-- What the tests say, computed for a set, is what document 01's terms mean, where want and done are in range.
use Rattle.std.specs.Prelude.{ℕ, ◌^◌, ◌<◌, true, false, ◌≡◌}
use Rattle.base.specs.Laws.Tests.{passes}
use Rattle.policy.specs.declared.Policy.{Policy}
use Rattle.policy.specs.Questions.{Accepted}
use Rattle.policy.specs.Cases.{ask}
use Rattle.engine.specs.Sets.{Offered, Enough, Slim}
use Rattle.engine.specs.Calls.{enough, slim}
use Rattle.engine.specs.Laws.Decide.{enough_iff, slim_iff}

module _ {p : Policy} {want done : ℕ} (ok : Accepted p (ask want done)) where
  pub is_enough : (s : ℕ) → Offered p (ask want done) s → enough p (ask want done) s ≡ true → Enough p (ask want done) s
  is_enough s o e = (enough_iff p (ask want done) ok s o).0 (passes _ e)

  pub not_enough : (s : ℕ) → enough p (ask want done) s ≡ false → ¬ Enough p (ask want done) s
  not_enough s e h = rw e at ((enough_iff p (ask want done) ok s h.offered).1 h)

  pub is_slim : (s : ℕ) → s < 2 ^ p.actions → slim p (ask want done) s ≡ true → Slim p (ask want done) s
  is_slim s l e = (slim_iff p (ask want done) ok s l).0 (passes _ e)

  pub not_slim : (s : ℕ) → slim p (ask want done) s ≡ false → ¬ Slim p (ask want done) s
  not_slim s e h = rw e at ((slim_iff p (ask want done) ok s h.enough.offered.set).1 h)
