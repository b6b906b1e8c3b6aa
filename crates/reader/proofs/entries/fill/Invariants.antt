-- The places before this one are filled with what any parser that reads as `entry` does makes of the bytes passed.
use Rattle.std.specs.Prelude.{◌≡◌, List, ℕ, length}
use Rattle.format.specs.Parser.{Outcome}
use Rattle.lines.specs.Outcomes.{outcome}
use Rattle.reader.proofs.Filling.{Filling}
use Rattle.reader.proofs.entries.fill.Given as goal

abbrev pub invariant-loop-place : goal.invariant-loop-place
invariant-loop-place g l =
    (m : List ℕ → Outcome _) → ((x : _) (r : _) (y : _) → goal.F-post g l.entry x r y → outcome r y.now ≡ m x.now) →
    Filling m l.fn.lines (length l.fn.places) l.lines l.place-items l.place-index
