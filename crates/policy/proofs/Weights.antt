-- What the test of each action of a policy, with its number, tells of question 6.
use Rattle.std.proofs.Common.{◌≡◌, ℕ, ◌<◌, ◌^◌, ◌||◌, not, ltb, List, length, take, ap, ◌∙◌}
use Rattle.std.specs.Prelude.{min}
use Rattle.std.specs.List.{list_all, enumerate_from}
use Rattle.base.specs.Every.{every_below}
use Rattle.base.specs.Laws.Tests.{every_below_same}
use Rattle.base.proofs.Every.{numbered, below_held}
use Rattle.mask.specs.Mask.{has}
use Rattle.mask.proofs.Bits.{has_past}
use Rattle.policy.specs.declared.Action.{Action}
use Rattle.policy.specs.Record.{no_action}
use Rattle.policy.specs.Questions.{heavier, outweighs}
use Rattle.policy.proofs.Arrays.{front_entry}

pub outweighs_each : (a : Action) (l front : List Action) (n : ℕ) → a.also < 2 ^ 16 → front ≡ take n l → length front ≡ min n 16
    → list_all (λ p. not (has a.also p.0) || ltb p.1.weight a.weight) (enumerate_from 0 front) ≡ outweighs l n a
unfolding outweighs heavier
outweighs_each a l front n small e long =
    numbered (λ b o. not (has a.also b) || ltb o.weight a.weight) no_action front
    ∙ every_below_same (length front) _ (heavier l a) (λ b h.
    ap (λ (o : Action). not (has a.also b) || ltb o.weight a.weight) (front_entry front n l no_action b e h))
    ∙ ap (λ (k : ℕ). every_below k (heavier l a)) long
    ∙ below_held (heavier l a) 16 n (λ b h. rw (has_past 16 small h))
