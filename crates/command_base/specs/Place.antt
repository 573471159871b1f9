-- Where bytes are read from.
use Rattle.std.specs.Prelude.{ℕ, List}
use Rattle.command_base.specs.declared.place.Place.{Place}
use Rattle.command_base.specs.declared.place.Place.TheVariants.{StandardInput, File}

-- such a place, without where its path lies in memory
pub data PlaceOf : Type 0 where
  standard_input : PlaceOf
  at_path : List ℕ → PlaceOf

abbrev pub place_of : Place → PlaceOf
place_of StandardInput = standard_input
place_of (File path) = at_path path.now
