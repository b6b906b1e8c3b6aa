-- `Action::outweighs` meets its contract.
use Rattle.std.proofs.Common.{rules, ◌∙◌}
use Rattle.policy.proofs.Weights.{outweighs_each}
use Rattle.policy.proofs.Action.outweighs.Goals as goal

pub returns : goal.returns
returns c =
    c.each_lighter.ensures
    ∙ outweighs_each c.args.self.now _ _ c.args.policy.now.actions (search rules) c.actions.ensures.value c.actions.ensures.long
