-- Texts that a pen puts one behind the other.
use Rattle.std.specs.Prelude.{ℕ, List, [], ◌++◌, ◌≡◌, refl, take, drop}
use Rattle.std.proofs.Common.{◌∙◌, ap, sym}
use Rattle.format.specs.Text.{ascii}
use Rattle.format.specs.Written.{line_of}
use Rattle.text.specs.declared.Pen.{Pen}
use Rattle.text.specs.Put.{fitting, Puts, with_text}
use Rattle.text.specs.Laws.Putting.{both, nothing}

module _ (text : List ℕ) (pen : Pen) where
  -- what it holds
  pub puts_text : Puts pen.buffer.now pen.at text (with_text text pen).buffer.now (with_text text pen).at
  unfolding with_text
  puts_text = record { ends = refl; holds = refl }

  -- a pen over the same buffer that holds this
  pub is_with : (now : List ℕ) (at : ℕ) → Puts pen.buffer.now pen.at text now at
      → record pen { buffer = record pen.buffer { now = now }; at = at } ≡ with_text text pen
  unfolding with_text
  is_with now at p =
      let holds = p.holds ∙ ap (λ (k : ℕ). take pen.at pen.buffer.now ++ fitting pen.buffer.now pen.at text ++ drop k pen.buffer.now) p.ends in
      λ i. record pen { buffer = record pen.buffer { now = holds i }; at = p.ends i }

pub with_none : (pen : Pen) → with_text [] pen ≡ pen
with_none pen = sym (is_with [] pen pen.buffer.now pen.at (nothing pen.buffer.now pen.at))

pub with_both : (s t : List ℕ) (pen : Pen) → with_text (s ++ t) pen ≡ with_text t (with_text s pen)
unfolding with_text
with_both s t pen = sym (is_with (s ++ t) pen _ _ (both (puts_text s pen) (puts_text t (with_text s pen))))

-- the parts of a line
pub with_line : (key content : List ℕ) (pen : Pen)
    → with_text (line_of key content) pen ≡ with_text (ascii "\n") (with_text content (with_text (ascii "=") (with_text key pen)))
unfolding line_of
with_line key content pen = with_both key _ pen ∙ with_both (ascii "=") _ _ ∙ with_both content (ascii "\n") _
