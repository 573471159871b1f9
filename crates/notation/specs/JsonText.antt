-- The text of a device as JSON, and a line feed. What a missing member says, 0 or no locale, is left out.
use Rattle.std.specs.Prelude.{ℕ, ◌==◌, ◌&&◌, List, [], ◌∷◌, ◌++◌, codes, if◌then◌else◌}
use Rattle.std.specs.List.{flat_map, join_with_byte}
use Rattle.std.specs.Fmt.{decimal}
use Rattle.config_record.specs.declared.coord.Coord.{Coord}
use Rattle.config_record.specs.declared.coord.Coord.TheVariants as coords
use Rattle.config_record.specs.locales.declared.locale.Locale.{Locale}
use Rattle.config_record.specs.locales.Zero.{is_zero}
use Rattle.config_record.specs.locales.Text.{locale_text}
use Rattle.config_record.specs.Coord.{all_coords, name_of}
use Rattle.config_record.specs.Device.{device_coordinate, device_locale}
use Rattle.notation.specs.LineLocale.{comma}

-- `"sdk":27`
abbrev pub member : Coord → List ℕ → List ℕ
member coord value = codes "\"" ++ name_of coord ++ codes "\":" ++ value

unfoldable pub number_member : Coord → ℕ → List (List ℕ)
number_member coord number = if number == 0 then [] else member coord (decimal number) ∷ []

unfoldable pub locale_member : Locale → List (List ℕ)
locale_member locale =
    if is_zero locale.language && is_zero locale.region then []
    else member coords.Locale (codes "\"" ++ locale_text locale ++ codes "\"") ∷ []

-- the member of a coordinate, where there is one; of a device, which is the list of its numbers
unfoldable pub members_at : List ℕ → Coord → List (List ℕ)
members_at device coords.Locale = locale_member (device_locale device)
members_at device coord = number_member coord (device_coordinate device coord)

unfoldable pub device_members : List ℕ → List (List ℕ)
device_members device = flat_map (members_at device) all_coords

unfoldable pub device_json : List ℕ → List ℕ
device_json device = codes "{" ++ join_with_byte comma (device_members device) ++ codes "}" ++ 10 ∷ []
