-- The three steps are those of the definition; where the first leaves no set, so do the others, and the words stay as they are.
use Rattle.std.proofs.Common.{◌≡◌, sym, ap}
use Rattle.settle.specs.Words.{added_of, grown}
use Rattle.settle.specs.Laws.Bits.{added_none}
use Rattle.settle.specs.Laws.Grown.{grown_none}
use Rattle.settle.proofs.adding.add.Goals as goal

pub returns-then-fresh-eq0 : goal.returns-then-fresh-eq0
returns-then-fresh-eq0 c =
    let none = added_none _ _ _ c.if-fresh-eq0.true in
    record { value = sym none; held_after = sym (grown_none _ _ _ none) }

-- the sets that are added
pub returns : goal.returns
unfolding added_of
returns c =
    let a = c.args in
    let added : c.none_held-more.result ≡ added_of a.held.now a.enabled a.rule.now =
    rw (← c.all_held-ready.ensures) c.none_held-more.ensures in
    record { value = added; held_after = ap (grown a.held.now a.rule.now.head) added }
