-- `lines::contents::list` meets its contract.
use Rattle.std.proofs.Common.{rules, tests, sym, ◌∙◌}
use Rattle.std.proofs.lemmas.List.{map_push}
use Rattle.lines.proofs.Parts.{none_read, one_read, all_read, broken, part_read, parts_read, some_parts, no_parts}
use Rattle.lines.proofs.contents.list.Goals as goal

pub returns-then-is_empty : goal.returns-then-is_empty
returns-then-is_empty c = no_parts c.args.n c.args.c.now c.if-is_empty.ensures c.list_of_none-none.ensures

pub loop-part-init : goal.loop-part-init
loop-part-init c = rw c.list_of_none-none.ensures (none_read c.args.n)

pub loop-part-preserved : goal.loop-part-preserved
loop-part-preserved c = rw (map_push, c.with-list.ensures) (one_read c.loop-part.invariant c.in-Some.part.now (sym c.in_ok-d.was ∙ c.number.ensures))

pub returns-in_err-d : goal.returns-in_err-d
returns-in_err-d c =
    let at = part_read _ _ _ c.args.c.now _ _ c.loop-part.yielded_by c.next.ensures.steps (search rules) (λ b a q k. search (rules, tests)) c.in-Some.is in
    rw (some_parts c.args.c.now c.if-is_empty.ensures) (broken c.args.n _ at (sym c.in_err-d.was ∙ c.number.ensures) c.from_residual.ensures.1)

pub returns : goal.returns
returns c =
    let all = parts_read _ _ _ c.args.c.now _ _ c.loop-part.yielded_by c.next.ensures.steps (search rules) (λ b a q k. search (rules, tests)) c.in-None.is in
    rw (some_parts c.args.c.now c.if-is_empty.ensures, ← all) (all_read c.loop-part.invariant c.ok_or.ensures.value)
