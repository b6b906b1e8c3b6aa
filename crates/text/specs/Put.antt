-- What putting a text into a buffer does, and the text of a refusal.
use Rattle.std.specs.Prelude.{ℕ, ◌+◌, ◌-◌, ◌≡◌, List, ◌++◌, length, take, drop}
use Rattle.format.specs.Text.{ascii, decimal}
use Rattle.format.specs.Written.{line_of}
use Rattle.text.specs.declared.Pen.{Pen}

-- as much of a text as there is room for behind the first `at` bytes
unfoldable pub fitting : List ℕ → ℕ → List ℕ → List ℕ
fitting buffer at text = take (length buffer - at) text

-- that much stands behind the first `at` bytes and ends at `end`; all other bytes are as before
pub record Puts (before : List ℕ) (at : ℕ) (text after : List ℕ) (end : ℕ) : Type 0 where
  pub ends : end ≡ at + length (fitting before at text)
  pub holds : after ≡ take at before ++ fitting before at text ++ drop end before

-- a pen that has put a text where the last one ended
unfoldable pub with_text : List ℕ → Pen → Pen
with_text text pen =
    let part = fitting pen.buffer.now pen.at text in
    let end = pen.at + length part in
    let after = take pen.at pen.buffer.now ++ part ++ drop end pen.buffer.now in
    record pen { buffer = record pen.buffer { now = after }; at = end }

-- the line of a refusal
unfoldable pub refused_text : ℕ → List ℕ
refused_text n = line_of (ascii "refused") (decimal n)
