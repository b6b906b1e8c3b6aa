-- `beside` gives what the search finds, or 0 where no rule has an unless entry.
use Rattle.std.proofs.Common.{sym, ◌∙◌}
use Rattle.engine.specs.Laws.Keep.{keep_zero}
use Rattle.engine.specs.Laws.More.{no_unless, enough_more}
use Rattle.engine.proofs.keeping.beside.Goals as goal

pub returns-then-not-some_unless : goal.returns-then-not-some_unless
returns-then-not-some_unless c =
    let ok = c.args.words.now.plan.accepted in
    let without = no_unless _ (sym c.some_unless.ensures ∙ c.if-not-some_unless.true) in
    sym (keep_zero _ _ ok _ (λ t sub o. enough_more _ _ ok without _ t sub o c.requires) c.requires)
