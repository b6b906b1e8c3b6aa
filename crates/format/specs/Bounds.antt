-- The bounds of a file, as src/ names them.
use Rattle.std.specs.Prelude.{ℕ}

-- a file has at most so many bytes
abbrev pub most_bytes : ℕ
most_bytes = 32768

-- no accepted record has a longer file
abbrev pub longest_file : ℕ
longest_file = 27294
