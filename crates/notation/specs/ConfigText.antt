-- The text of a stored configuration: its qualifiers, as the folder of its resources is called (AOSP: ResTable_config::toString).
use Rattle.std.specs.Prelude.{ℕ, ◌==◌, List, [], ◌∷◌, codes, if◌then◌else◌}
use Rattle.std.specs.List.{flat_map, join_with_byte}
use Rattle.std.specs.Option.{option_to_list}
use Rattle.config_record.specs.declared.coord.Coord.{Coord}
use Rattle.config_record.specs.declared.coord.Coord.TheVariants as coords
use Rattle.config_record.specs.locales.Locale.{dash}
use Rattle.config_record.specs.Record.{coordinate, locale_in, locale_script, locale_variant}
use Rattle.notation.specs.LineParts.{size_part, version_part, line_order}
use Rattle.notation.specs.NumberWord.{number_word}
use Rattle.notation.specs.LocaleParts.{locale_parts}

-- 0 says nothing
unfoldable pub number_parts : Coord → ℕ → List (List ℕ)
number_parts coord number = if number == 0 then [] else number_word coord number ∷ []

-- the parts of a coordinate, of a record, which is the list of its bytes
unfoldable pub parts_at : List ℕ → Coord → List (List ℕ)
parts_at r coords.Locale = locale_parts (locale_in r) (locale_script r) (locale_variant r)
parts_at r coords.Width = option_to_list (size_part (coordinate r coords.Width) (coordinate r coords.Height))
parts_at r coords.Sdk = option_to_list (version_part (coordinate r coords.Sdk) (coordinate r coords.Minor))
parts_at r coord = number_parts coord (coordinate r coord)

-- in the order of the parts of a line (LineParts.antt)
unfoldable pub config_parts : List ℕ → List (List ℕ)
config_parts r = flat_map (parts_at r) line_order

-- a dash between any two
abbrev pub parts_text : List (List ℕ) → List ℕ
parts_text [] = codes "(default)"
parts_text parts = join_with_byte dash parts

unfoldable pub config_text : List ℕ → List ℕ
config_text r = parts_text (config_parts r)
