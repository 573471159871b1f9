-- UTF-16: text as units of two bytes.
use Rattle.std.specs.Prelude.{ℕ, List, [], ◌∷◌}
use Rattle.std.specs.Char.Escape.{encode_utf16}
use Rattle.std.specs.List.{flat_map}
use Rattle.std.specs.Str.{chars}
use Rattle.chunk_walk.specs.Number.{number}

-- the units that bytes are; a byte that is left over at the end says nothing
unfoldable pub units_in : List ℕ → List ℕ
units_in [] = []
units_in (_ ∷ []) = []
units_in (low ∷ high ∷ behind) = number 2 (low ∷ high ∷ behind) 0 ∷ units_in behind

-- the units of a text that is given as UTF-8
unfoldable pub units_of : List ℕ → List ℕ
units_of text = flat_map encode_utf16 (chars text)
