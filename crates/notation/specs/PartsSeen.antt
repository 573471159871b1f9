-- How contracts see the parts that are left of a line.
use Rattle.std.specs.Prelude.{ℕ, ◌<◌, List, [], length, Option, Some, None}
use Rattle.std.specs.Borrow.{Bor}
use Rattle.notation.specs.Parts.{parts_of}

-- those of what stands behind a dash, if there is one
abbrev pub parts_behind : Option (Bor (List ℕ)) → List (List ℕ)
parts_behind None = []
parts_behind (Some line) = parts_of line.now

-- what is left has fewer bytes
abbrev pub IsShorter : Option (Bor (List ℕ)) → List ℕ → Type 0
IsShorter None line = Unit {0}
IsShorter (Some left) line = length left.now < length line
