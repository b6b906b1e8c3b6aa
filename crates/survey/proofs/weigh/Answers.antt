-- `weigh` takes the slim sets of a word in turn; a word of 0 has none.
use Rattle.std.proofs.Common.{rules, ℕ, Option, sym, ◌∙◌, ◌+◌, ◌*◌, ◌≡◌, arith}
use Rattle.mask.specs.Mask.{has}
use Rattle.mask.specs.Family.{minimal}
use Rattle.policy.specs.declared.Policy.{Policy}
use Rattle.policy.specs.declared.Query.{Query}
use Rattle.covers.specs.Covers.{Marks}
use Rattle.survey.specs.Laws.Slims.{marks_zero}
use Rattle.survey.specs.declared.Found.{Found}
use Rattle.survey.specs.Survey.{Surveyed, family}
use Rattle.survey.proofs.Filtering.{Taken, Skips, one_taken, none_taken, go_on}
use Rattle.survey.proofs.Surveyed.{weighed_at, weighed_few, weighed_idle, weighed_skip, weighed_more}
use Rattle.survey.proofs.weigh.Goals.{In-Some}
use Rattle.survey.proofs.weigh.Goals as goal

pub returns-then-word-eq0 : goal.returns-then-word-eq0
returns-then-word-eq0 c = weighed_idle c.requires.surveyed _ (omega arith) (marks_zero c.requires.marks c.if-word-eq0.true)

-- a set that the word lacks is passed over
skips : (p : Policy) (q : Query) {w word : ℕ} {all : Option Found} → Marks (minimal (family p q)) w word
    → Skips (λ i. Surveyed p q (64 * w + i) all) 64 (has word)
skips p q marks i h out so = weighed_at (weighed_skip so (sym (marks.bits i h) ∙ out)) (omega arith)

-- the set in hand
taken : (c : In-Some) → Taken (λ f. f.0.now ≡ c.args.word)
    (λ i. Surveyed c.args.plan.now.policy c.args.plan.now.query (64 * c.args.w.w + i) c.loop-i.all) (has c.args.word) 64 c.in-Some.i c.next.new.self
taken c =
    one_taken (has c.args.word) _ _ _ c.loop-i.invariant _ c.in-Some.ensures.steps
    (skips _ _ c.requires.marks)
    (λ f g x b h k. search rules)

pub overflow_add-set : goal.overflow_add-set
overflow_add-set c = omega (arith, c.args.w.within, (taken (goal.at.overflow_add-set c).In-Some).below)

pub one_more-requires : goal.one_more-requires
one_more-requires c =
    let one = taken (goal.at.one_more-requires c).In-Some in
    omega (arith, c.args.w.within, one.below, weighed_few one.so)

pub loop-i-preserved : goal.loop-i-preserved
loop-i-preserved c =
    let one = taken (goal.at.loop-i-preserved c).In-Some in
    let bit = sym (c.requires.marks.bits c.in-Some.i one.below) ∙ one.taken in
    go_on one (rw (c.one_more.ensures.value, c.cost.ensures) (weighed_at (weighed_more one.so bit) (omega arith)))

pub returns : goal.returns
returns c =
    none_taken (has c.args.word) _ _ _ c.loop-i.invariant c.in-None.ensures.steps
    (skips _ _ c.requires.marks)
    (λ f g x b h k. search rules)
