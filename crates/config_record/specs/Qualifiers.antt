-- What is printed of a configuration: its qualifiers.
use Rattle.std.specs.Prelude.{ℕ, ◌==◌, ◌&&◌, if◌then◌else◌, List, [], ◌∷◌, ◌++◌, codes}
use Rattle.std.specs.List.{flat_map, join_with_byte}
use Rattle.std.specs.Fmt.{decimal}
use Rattle.hex.specs.Hex.{encode_lower}
use Rattle.config_record.specs.declared.coord.Coord as coord
use Rattle.config_record.specs.declared.coord.Coord.TheVariants as coords
use Rattle.locales.specs.declared.locale.Locale.{Locale}
use Rattle.locales.specs.Zero.{is_zero}
use Rattle.config_record.specs.Coord.{all_coords, name_of}
use Rattle.locales.specs.Text.{locale_text}
use Rattle.config_record.specs.Device.{device_coordinate, device_locale}
use Rattle.config_record.specs.Record.{coordinate, locale_in, locale_script, locale_variant}

abbrev pub qualifier : List ℕ → List ℕ → List ℕ
qualifier name value = name ++ codes "=" ++ value

-- ---- a qualifier, where there is one: what is zero is not shown

unfoldable pub number_qualifier : coord.Coord → ℕ → List (List ℕ)
number_qualifier c n = if n == 0 then [] else qualifier (name_of c) (decimal n) ∷ []

unfoldable pub locale_qualifier : Locale → List (List ℕ)
locale_qualifier l = if is_zero l.language && is_zero l.region then [] else qualifier (name_of coords.Locale) (locale_text l) ∷ []

unfoldable pub bytes_qualifier : List ℕ → List ℕ → List (List ℕ)
bytes_qualifier name bytes = if is_zero bytes then [] else qualifier name (encode_lower bytes) ∷ []

-- ---- all of them

unfoldable pub coordinate_qualifier : (coord.Coord → ℕ) → Locale → coord.Coord → List (List ℕ)
coordinate_qualifier numbers l coords.Locale = locale_qualifier l
coordinate_qualifier numbers l c = number_qualifier c (numbers c)

-- of a record or a device: those of the coordinates, in their order
unfoldable pub coordinate_qualifiers : (coord.Coord → ℕ) → Locale → List (List ℕ)
coordinate_qualifiers numbers l = flat_map (coordinate_qualifier numbers l) all_coords

-- of a record: also its script and its variant
unfoldable pub record_qualifiers : List ℕ → List (List ℕ)
record_qualifiers r =
    coordinate_qualifiers (coordinate r) (locale_in r)
    ++ bytes_qualifier (codes "script") (locale_script r)
    ++ bytes_qualifier (codes "variant") (locale_variant r)

-- a record is printed between brackets, its qualifiers parted by commas
unfoldable pub record_text : List ℕ → List ℕ
record_text r = codes "[" ++ join_with_byte 44 (record_qualifiers r) ++ codes "]"

-- a device is printed without brackets, its qualifiers parted by spaces
unfoldable pub device_text : List ℕ → List ℕ
device_text d = join_with_byte 32 (coordinate_qualifiers (device_coordinate d) (device_locale d))
