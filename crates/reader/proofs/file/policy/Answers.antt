-- `reader::file::policy` meets its contract. Each goal has its own record of the calls so far, so each says anew what they read.
use Rattle.std.proofs.Common.{rules, arith}
use Rattle.format.specs.Text.{ascii}
use Rattle.format.specs.Parser.{onward}
use Rattle.format.specs.Format.{number_line}
use Rattle.format.specs.Entries.{action, rule, entries, record_of}
use Rattle.lines.specs.Outcomes.{outcome_by}
use Rattle.reader.proofs.Filling.{as_many}
use Rattle.reader.proofs.file.policy.Goals as goal

pub returns-in_err-level : goal.returns-in_err-level
unfolding entries outcome_by onward
returns-in_err-level c =
    let levels = c.times.ensures (number_line (ascii "level") 0 15) (λ x r y k. search rules) in
    grind arith

pub returns-in_err-action : goal.returns-in_err-action
unfolding entries outcome_by onward
returns-in_err-action c =
    let levels = c.times.ensures (number_line (ascii "level") 0 15) (λ x r y k. search rules) in
    let actions = c.times-2.ensures (action c.args.sizes.actions) (λ x r y k. search rules) in
    grind arith

pub returns-in_err-rules : goal.returns-in_err-rules
unfolding entries outcome_by onward
returns-in_err-rules c =
    let levels = c.times.ensures (number_line (ascii "level") 0 15) (λ x r y k. search rules) in
    let actions = c.times-2.ensures (action c.args.sizes.actions) (λ x r y k. search rules) in
    grind arith

pub returns-in_err-rule : goal.returns-in_err-rule
unfolding entries outcome_by onward
returns-in_err-rule c =
    let levels = c.times.ensures (number_line (ascii "level") 0 15) (λ x r y k. search rules) in
    let actions = c.times-2.ensures (action c.args.sizes.actions) (λ x r y k. search rules) in
    let rules = c.times-3.ensures (rule c.args.sizes.decisions c.args.sizes.actions) (λ x r y k. search rules) in
    grind arith

pub returns : goal.returns
unfolding entries outcome_by onward record_of
returns c =
    let levels = c.times.ensures (number_line (ascii "level") 0 15) (λ x r y k. search rules) in
    let actions = c.times-2.ensures (action c.args.sizes.actions) (λ x r y k. search rules) in
    let rules = c.times-3.ensures (rule c.args.sizes.decisions c.args.sizes.actions) (λ x r y k. search rules) in
    grind (arith, as_many)
