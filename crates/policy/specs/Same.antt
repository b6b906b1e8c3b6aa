-- Lists of decisions and rules that are equal below their counts: the tests of it.
use Rattle.std.specs.Prelude.{Bool, ◌&&◌, eqb}
use Rattle.std.specs.Cmp.Lexicographic.{pointwise}
use Rattle.policy.specs.declared.Rule.{Rule}
use Rattle.policy.specs.declared.Decisions.{Decisions}
use Rattle.policy.specs.Record.{listed}

-- the same count, and the same decisions below it
abbrev pub same_list : Decisions → Decisions → Bool
same_list l m = eqb l.count m.count && pointwise eqb (listed l) (listed m)

abbrev pub same_rule : Rule → Rule → Bool
same_rule r r' =
    eqb r.head r'.head && eqb r.needs r'.needs && same_list r.ifs r'.ifs && same_list r.unless r'.unless
