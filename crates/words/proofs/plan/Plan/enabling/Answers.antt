-- The loop fills the places of the rules.
use Rattle.std.proofs.Common.{ℕ, ◌≡◌, subst, arith}
use Rattle.std.proofs.lemmas.List.{length-replicate}
use Rattle.base.specs.Laws.Tables.{Tabled}
use Rattle.base.proofs.Tabling.{tabled_none}
use Rattle.policy.specs.Laws.{accepted_range}
use Rattle.settle.specs.Laws.Room.{are_words_none}
use Rattle.words.proofs.plan.Plan.enabling.Goals as goal

pub loop-j-init : goal.loop-j-init
loop-j-init c = (tabled_none (length-replicate {A = ℕ} 256 0), are_words_none 256)

pub returns-clause-tabled : goal.returns-clause-tabled
returns-clause-tabled c =
    let self = c.args.self.now in
    let last : c.loop-j.j ≡ self.policy.rules = omega (
      arith,
      c.loop-j-test.false,
      c.loop-j.auto.j-end,
      c.front-order.ensures.long,
      (accepted_range _ _ self.accepted).rules,
    ) in
    subst (Tabled _ 256 _) last c.loop-j.invariant.0
