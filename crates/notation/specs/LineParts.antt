-- The parts of the line that Android writes of a device.
use Rattle.std.specs.Prelude.{ℕ, ◌==◌, ◌&&◌, ◌||◌, not, Bool, true, List, [], ◌∷◌, ◌++◌, length, codes, Option, Some, None, is_some, if◌then◌else◌}
use Rattle.std.specs.Fmt.{decimal}
use Rattle.std.specs.List.{flat_map, join_with_byte}
use Rattle.std.specs.Option.{option_to_list}
use Rattle.config_record.specs.declared.coord.Coord.{Coord}
use Rattle.config_record.specs.declared.coord.Coord.TheVariants as coords
use Rattle.config_record.specs.locales.Locale.{dash}
use Rattle.config_record.specs.locales.Text.{locale_text}
use Rattle.config_record.specs.Device.{device_coordinate, device_locale}
use Rattle.notation.specs.Cut.{cut_at, behind_sign}
use Rattle.notation.specs.Words.{words, word_for}
use Rattle.notation.specs.Forms.{forms, form_for}
use Rattle.notation.specs.NumberWord.{number_word}
use Rattle.notation.specs.LocaleWord.{with_plus}

-- ---- the part of a coordinate, where there is one

-- by a word, or by letters around the number
abbrev pub is_said : Coord → ℕ → Bool
is_said coord number = is_some (word_for words coord number) || is_some (form_for forms coord)

-- 0 says nothing
unfoldable pub number_part : Coord → ℕ → List (List ℕ)
number_part coord number = if number == 0 || not (is_said coord number) then [] else number_word coord number ∷ []

-- What stands behind the language of a locale's text is a region, a script, or both with a dash between them.

-- a region of two letters, or nothing
abbrev pub is_short : Option (List ℕ) → Bool
is_short None = true
is_short (Some others) = length others == 2

-- `es-rMX` where the language has two letters and no more is there than a region of two; else with `b+`, as `b+es+419`,
-- `b+fil` and `b+sr+Latn+RS`
abbrev pub locale_by : List ℕ → List ℕ × Option (List ℕ) → List ℕ
locale_by text parts =
    if length parts.0 == 2 && is_short parts.1 then parts.0 ++ behind_sign (codes "-r") parts.1
    else codes "b+" ++ flat_map with_plus text

unfoldable pub locale_part : List ℕ → List (List ℕ)
locale_part text = if length text == 0 then [] else locale_by text (cut_at dash text) ∷ []

unfoldable pub size_part : ℕ → ℕ → Option (List ℕ)
size_part width height =
    if width == 0 && height == 0 then None else Some (decimal width ++ codes "x" ++ decimal height)

abbrev pub minor_text : ℕ → List ℕ
minor_text minor = if minor == 0 then [] else codes "." ++ decimal minor

unfoldable pub version_part : ℕ → ℕ → Option (List ℕ)
version_part sdk minor = if sdk == 0 && minor == 0 then None else Some (codes "v" ++ decimal sdk ++ minor_text minor)

-- of a device, which is the list of its numbers
unfoldable pub line_parts_at : List ℕ → Coord → List (List ℕ)
line_parts_at device coords.Locale = locale_part (locale_text (device_locale device))
line_parts_at device coords.Width = option_to_list (size_part (device_coordinate device coords.Width) (device_coordinate device coords.Height))
line_parts_at device coords.Sdk = option_to_list (version_part (device_coordinate device coords.Sdk) (device_coordinate device coords.Minor))
line_parts_at device coord = number_part coord (device_coordinate device coord)

-- ---- the line

-- The order of Android's parts. With the width stands the height, with the version its minor part.
unfoldable pub line_order : List Coord
line_order =
    coords.Mcc ∷ coords.Mnc ∷ coords.Locale ∷ coords.LayoutDirection ∷ coords.SmallestWidthDp ∷ coords.WidthDp ∷ coords.HeightDp
    ∷ coords.ScreenSize ∷ coords.Long ∷ coords.Round ∷ coords.WideColor ∷ coords.Hdr ∷ coords.Orientation ∷ coords.UiType
    ∷ coords.Night ∷ coords.Density ∷ coords.Touchscreen ∷ coords.KeysHidden ∷ coords.Keyboard ∷ coords.NavHidden
    ∷ coords.Navigation ∷ coords.Width ∷ coords.Sdk
    ∷ []

-- A dash stands between any two. What no word says is left out.
unfoldable pub line_text : List ℕ → List ℕ
line_text device = join_with_byte dash (flat_map (line_parts_at device) line_order)
