-- On every accepted file the text is the file itself, and on any other its refusal.
use Rattle.std.specs.Prelude.{ℕ, List, ◌≡◌}
use Rattle.std.proofs.Common.{sym, ◌∙◌}
use Rattle.engine.specs.Laws.Refusals.{answered, refused}
use Rattle.text.specs.Put.{refused_text}
use Rattle.reader.specs.File.{read_of}
use Rattle.reader.specs.Claim.{AcceptedFile}
use Rattle.reader.specs.Laws.States.{states}
use Rattle.printing.specs.Texts.{rewrite_text}

pub rewritten : (s : List ℕ) → AcceptedFile s → rewrite_text s ≡ s
unfolding rewrite_text
rewritten s accepted = answered _ refused_text _ accepted ∙ sym (states s accepted).draft.text

-- a refused file has its refusal as its text
pub text_refused : (s : List ℕ) (n : ℕ) → (read_of s).refusal ≡ n → ¬ (n ≡ 0) → rewrite_text s ≡ refused_text n
unfolding rewrite_text
text_refused s n e some = rw e (refused n refused_text _ some)
