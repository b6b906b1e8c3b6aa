-- The steps of the loops: a rule of a pass and of the pass back, a pass, and a level once a pass moves nothing that is asked for.
use Rattle.std.proofs.Common.{◌+◌, ◌-◌, ◌≤◌, ◌<◌, true, false, ◌≡◌, sym, ◌∙◌, arith, get_or, rules}
use Rattle.order.specs.Laws.{Hand, level_hand}
use Rattle.settle.specs.Laws.Right.{right_start}
use Rattle.settle.specs.Laws.Room.{total_bound, are_words_none}
use Rattle.settle.specs.Laws.Settled.{level_part, level_settled}
use Rattle.settle.proofs.Passing.{works_more, any_works, any_kept, place_again, place_more, place_idle}
use Rattle.settle.proofs.levels.Goals.{then-more-ne0+then-order-rule, else-more-ne0}
use Rattle.settle.proofs.levels.Goals.{else-more-ne0-via-then-more-ne0+else-order-rule, else-more-ne0-via-else-more-ne0}
use Rattle.settle.proofs.levels.Goals as goal

pub loop-l-init : goal.loop-l-init
loop-l-init c = (are_words_none 128, omega arith, λ q w sets ok e. right_start _ q ok w sets)

-- a rule of a pass
pub loop-j-preserved : goal.loop-j-preserved
loop-j-preserved c =
    let pre = c.requires in
    let range = c.args.ranged.now.in_range in
    let start = c.args.order.now.start in
    let l = c.loop-l.l in
    let low : l < 16 = omega (arith, c.loop-l-test.true, pre.count_bound) in
    let hand : Hand c.args.ranged.now.policy.now c.args.order.now.rules (get_or start l 0) (get_or start (l + 1) 0) =
    level_hand _ pre.ordered range.rules _ low _ in
    let at = c.loop-j.invariant in
    let below = c.loop-j-test.true in
    let adds = c.add-more.ensures in
    elim c.if-more-ne0.branch [
      | then-more-ne0+then-order-rule w ↦ rw (adds.held_after, w.again-is)
          (place_again range hand at below pre.are_words (λ e. w.if-more-ne0.true (adds.value ∙ e)))
      | else-more-ne0 w ↦ elim w.else-more-ne0.branch [
        | else-more-ne0-via-then-more-ne0+else-order-rule v ↦ rw (adds.held_after, w.again-is)
            (place_more range hand at below pre.are_words (λ e. v.if-more-ne0.true (adds.value ∙ e)) pre.used v.if-order-rule.false)
        | else-more-ne0-via-else-more-ne0 v ↦ rw (adds.held_after, w.again-is)
            (place_idle range hand at below (sym adds.value ∙ v.if-more-ne0.false))
      ]
    ]

-- a rule of the pass back
pub loop-i-preserved : goal.loop-i-preserved
loop-i-preserved c =
    let pre = c.requires in
    let range = c.args.ranged.now.in_range in
    let start = c.args.order.now.start in
    let l = c.loop-l.l in
    let low : l < 16 = omega (arith, c.loop-l-test.true, pre.count_bound) in
    let hand : Hand c.args.ranged.now.policy.now c.args.order.now.rules (get_or start l 0) (get_or start (l + 1) 0) =
    level_hand _ pre.ordered range.rules _ low _ in
    let top = c.loop-i.invariant in
    let from : get_or start l 0 ≤ c.loop-i.i - 1 = omega (arith, c.loop-i-test.true) in
    let to : c.loop-i.i - 1 < get_or start (l + 1) 0 = omega (arith, c.loop-i-test.true, c.loop-i.auto.i) in
    rw c.add.ensures.held_after (
      any_works range hand top.0 from to pre.are_words,
      omega (arith, top.1, any_kept range hand top.0 from to),
    )

-- a pass and the pass back
pub passes-smaller : goal.passes-smaller
passes-smaller c =
    let back = c.loop-i.invariant in
    let some : c.loop-j.again ≡ true = search rules in
    omega (arith, c.loop-j.invariant.moved some, back.1, total_bound back.0.fits)

pub loop-l-preserved : goal.loop-l-preserved
loop-l-preserved c =
    let pre = c.requires in
    let low : c.loop-l.l < 16 = omega (arith, c.loop-l-test.true, pre.count_bound) in
    let end = c.loop-j.invariant in
    let passed = works_more c.passes.invariant end.works in
    let none : c.loop-j.again ≡ false = search rules in (
      passed.fits,
      omega (arith, c.loop-l-test.true),
      λ q w sets ok e.
          let part = level_part _ q ok w sets pre.ordered e _ low in
          level_settled _ q ok w sets pre.ordered e _ low (passed.right q w sets _ ok part (c.loop-l.invariant.2 q w sets ok e))
          (λ i a b. end.idle none i a (omega (arith, c.loop-j-test.false))),
    )
