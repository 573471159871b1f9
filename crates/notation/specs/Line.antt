-- What the line of a device says, and what no part can say.
use Rattle.std.specs.Prelude.{ℕ, ◌==◌, List, [], ◌∷◌, Option, Some, None, Result, Ok, Err, if◌then◌else◌}
use Rattle.config_record.specs.declared.coord.Coord.{Coord}
use Rattle.config_record.specs.declared.coord.Coord.TheVariants as coords
use Rattle.config_record.specs.Coord.{all_coords}
use Rattle.config_record.specs.ComparedNumber.{device_number}
use Rattle.notation.specs.declared.line.NoLine.{NoLine}
use Rattle.notation.specs.declared.line.NoLine.TheVariants.{NoWord}
use Rattle.notation.specs.Fault.{FaultOf}

-- the first of these coordinates at which two devices have other numbers
unfoldable pub first_unlike : List Coord → List ℕ → List ℕ → Option Coord
first_unlike [] read device = None
first_unlike (coord ∷ others) read device =
    if device_number read coord == device_number device coord then first_unlike others read device else Some coord

-- What no part has said of a device: the first coordinate at which its line reads otherwise. Where a line does not read at all,
-- it has a locale of the other rule.
abbrev pub unsaid : Result (List ℕ) FaultOf → List ℕ → Option Coord
unsaid (Ok read) device = first_unlike all_coords read device
unsaid (Err fault) device = Some coords.Locale

abbrev pub if_all_said : List ℕ → Option Coord → Result (List ℕ) NoLine
if_all_said text None = Ok text
if_all_said text (Some coord) = Err (NoWord coord)
