-- `levels` hands back what is found, and what equals the definition means what that means.
use Rattle.std.proofs.Common.{◌≡◌, sym, ap, subst, ◌∙◌}
use Rattle.policy.specs.declared.Policy.{Policy}
use Rattle.strata.specs.declared.Levelling.{Levelling}
use Rattle.strata.specs.Levels.{levelling, refused_levels, found_levels, FindsLevels}
use Rattle.strata.specs.Laws.Levels.{finds_levels}
use Rattle.strata.proofs.levels.Goals as goal

means : (p : Policy) {r : Levelling} → r ≡ found_levels p → FindsLevels p r
means p e = subst (FindsLevels p) (sym e) (finds_levels p)

pub returns-in-Ok : goal.returns-in-Ok
returns-in-Ok c = let e = ap levelling (sym c.in-Ok.is) ∙ c.found.ensures in record { value = e; finds_levels = means _ e }

pub returns-in-Err : goal.returns-in-Err
returns-in-Err c =
    let e : refused_levels c.from.result ≡ found_levels c.args.policy =
    ap refused_levels c.from.ensures ∙ ap levelling (sym c.in-Err.is) ∙ c.found.ensures in
    record { value = e; finds_levels = means _ e }
