-- Each entry is that of its four actions and mask.
use Rattle.std.proofs.Common.{rules, ℕ, List, ◌∙◌, ap, ◌/◌, ◌%◌}
use Rattle.columns.specs.Sets.{four_of, fours_of}
use Rattle.base.proofs.Making.{made}
use Rattle.columns.proofs.reach.Reach.fours.Goals as goal

pub returns : goal.returns
unfolding fours_of
returns c =
    made _ (λ n. four_of c.worlds-world.result (n / 16) (n % 16)) (λ i y q k. search rules) c.from_fn.ensures.items
    ∙ ap (λ (x : List ℕ). fours_of x) c.worlds-world.ensures
