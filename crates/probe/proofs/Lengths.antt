-- A file that is written has at least one byte, and no more than were lent.
use Rattle.std.proofs.Common.{ℕ, ◌≤◌, ◌≡◌, List, length, arith, Option, Result, Ok, Err}
use Rattle.std.proofs.Common.{length-append}
use Rattle.std.specs.Option.{IfSome}
use Rattle.std.specs.Result.{result_ok}
use Rattle.policy.specs.declared.Policy.{Policy}
use Rattle.policy.specs.declared.Queries.{Queries}
use Rattle.policy.specs.declared.refusal.Refusal.{Refusal}
use Rattle.format.specs.Bounds.{longest_file}
use Rattle.format.specs.Written.{file_of}
use Rattle.format.specs.Laws.Lengths.{line_length}
use Rattle.writer.specs.Writing.{file_text, Writes}
use Rattle.writer.specs.Laws.Room.{has_room}

some_byte : (p : Policy) (qs : Queries) → 1 ≤ length (file_text p qs)
unfolding file_of
some_byte p qs = simp (length-append, line_length) (omega arith)

pub bounds : (p : Policy) (qs : Queries) (before after : List ℕ) (r : Result ℕ Refusal) (o : Option ℕ) → o ≡ result_ok r
    → length before ≡ longest_file → Writes p qs before after r → IfSome o (λ n. (1 ≤ n) × (n ≤ longest_file))
bounds p qs before after (Ok m) o is long w =
    rw is (omega (arith, w.1, some_byte p qs), omega (arith, w.1, long, has_room p qs (length before) w.0))
bounds p qs before after (Err e) o is long w = rw is tt
