-- A name, and behind it an id, a coordinate or a number, as text.
use Rattle.std.specs.Prelude.{ℕ, List, ◌++◌, codes}
use Rattle.std.specs.Fmt.{decimal}
use Rattle.bags_themes.specs.res_value.ResId.{id_text}
use Rattle.bags_themes.specs.config_record.declared.coord.Coord.{Coord}
use Rattle.bags_themes.specs.config_record.Coord.{name_of}

-- `NAME ID`
unfoldable pub named_id : List ℕ → ℕ → List ℕ
named_id name id = name ++ codes " " ++ id_text id

-- `NAME COORD`
unfoldable pub named_coord : List ℕ → Coord → List ℕ
named_coord name coord = name ++ codes " " ++ name_of coord

-- `NAME NUMBER`
unfoldable pub named_number : List ℕ → ℕ → List ℕ
named_number name number = name ++ codes " " ++ decimal number
