-- `Pen::number` meets its contract: at most ten digits are put.
use Rattle.std.proofs.Common.{◌∙◌, ap}
use Rattle.format.specs.Text.{decimal}
use Rattle.text.specs.Put.{with_text}
use Rattle.text.proofs.Digits.{digits_decimal, few_digits}
use Rattle.text.proofs.Pen.number.Goals as goal

pub returns : goal.returns
unfolding decimal
returns c =
    let d = c.decimal-k in
    let few = few_digits c.args.n d.result c.ranges.n.fits d.ensures.len.2 in
    c.put.ensures ∙ ap (λ t. with_text t c.args.self.now) (d.ensures.digits ∙ digits_decimal 9 d.result c.args.n d.ensures.len few)
