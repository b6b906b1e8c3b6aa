-- A refusal is put, or the file is written; and either is the text for the file.
use Rattle.std.proofs.Common.{◌∙◌, ap, ◌≡◌, length, replicate, ℕ}
use lib.ListN.{length-replicate}
use Rattle.format.specs.Bounds.{longest_file}
use Rattle.text.specs.Put.{with_text}
use Rattle.printing.proofs.Written.{draft_refused, write_refused, file_written}
use Rattle.printing.proofs.RewrittenText.put.Goals as goal

-- the buffer that the writer is lent
long : length (replicate {A = ℕ} longest_file 0) ≡ longest_file
long = length-replicate {A = ℕ} longest_file 0

pub returns-then-read-ne0 : goal.returns-then-read-ne0
returns-then-read-ne0 c =
    c.put.ensures ∙ ap (λ t. with_text t c.args.pen.now) (draft_refused _ c.draft-read.ensures.value c.if-read-ne0.true)

pub returns-in-Err : goal.returns-in-Err
returns-in-Err c =
    c.put-in-Err.ensures ∙ ap (λ t. with_text t c.args.pen.now)
    (write_refused _ c.draft-read.ensures.value c.if-read-ne0.false (replicate longest_file 0) c.write.new.buffer long c.in-Err.refusal c.in-Err.ensures.writes)

pub returns-in-Ok : goal.returns-in-Ok
returns-in-Ok c =
    c.put-in-Ok.ensures ∙ ap (λ t. with_text t c.args.pen.now)
    (file_written _ c.draft-read.ensures.value c.if-read-ne0.false (replicate longest_file 0) c.write.new.buffer long c.in-Ok.ensures.writes)
