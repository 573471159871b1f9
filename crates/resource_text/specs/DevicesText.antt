-- The devices of a part of a box as text: what the part has at the coordinates where it is narrower.
use Rattle.std.specs.Prelude.{ℕ, ◌^◌, ◌/◌, ◌==◌, List, [], ◌∷◌, ◌++◌, codes, if◌then◌else◌}
use Rattle.std.specs.List.{flat_map, list_any}
use Rattle.std.specs.Fmt.{decimal}
use Rattle.stack_diff.specs.config_box.config_record.declared.coord.Coord.{Coord}
use Rattle.stack_diff.specs.config_box.config_record.Coord.{all_coords, name_of}
use Rattle.stack_diff.specs.config_box.config_record.locales.LocaleNumber.{locale_of_number}
use Rattle.stack_diff.specs.config_box.config_record.locales.Text.{locale_text}
use Rattle.stack_diff.specs.config_box.box_answers.NumberSet.{SetOf, RangeOf, NumbersOf, LocalesOf}
use Rattle.stack_diff.specs.config_box.box_answers.Members.{set_at}
use Rattle.notation.specs.declared.form.Form.{Form}
use Rattle.notation.specs.declared.form.Form.TheVariants.{Android, Raw}
use Rattle.notation.specs.DevicesNotation as android
use Rattle.notation.specs.Narrower.{is_narrower}

-- ---- the values of a coordinate

-- `LOW..HIGH`, or the number of a range that has one alone
unfoldable pub range_text : ℕ → ℕ → List ℕ
range_text low high = if low == high then decimal low else decimal low ++ codes ".." ++ decimal high

-- a locale by its number; `none` is that of a device without one
unfoldable pub locale_value : ℕ → List ℕ
locale_value number = if number / 2 ^ 32 == 0 then codes "none" else locale_text (locale_of_number number)

-- `,VALUE`
unfoldable pub next_value : (ℕ → List ℕ) → ℕ → List ℕ
next_value value number = codes "," ++ value number

-- `VALUE,VALUE`
unfoldable pub listed : (ℕ → List ℕ) → List ℕ → List ℕ
listed value [] = []
listed value (first ∷ others) = value first ++ flat_map (next_value value) others

unfoldable pub values_text : SetOf → List ℕ
values_text (RangeOf low high) = range_text low high
values_text (NumbersOf numbers) = listed decimal numbers
values_text (LocalesOf numbers) = listed locale_value numbers

-- ---- where a part is narrower than the whole

-- ` COORD=VALUES`
unfoldable pub coord_text : List SetOf → Coord → List ℕ
coord_text part c = codes " " ++ name_of c ++ codes "=" ++ values_text (set_at part c)

-- the same, if the part is narrower there
unfoldable pub narrower_text : List SetOf → List SetOf → Coord → List ℕ
narrower_text whole part c = if is_narrower whole part c then coord_text part c else []

-- ` on COORD=VALUES COORD=VALUES`; nothing where the part is narrower at no coordinate
unfoldable pub devices_text : List SetOf → List SetOf → List ℕ
devices_text whole part =
    if list_any (is_narrower whole part) all_coords then codes " on" ++ flat_map (narrower_text whole part) all_coords else []

-- in either form
unfoldable pub devices_in : Form → List SetOf → List SetOf → List ℕ
devices_in Android whole part = android.devices_text whole part
devices_in Raw whole part = devices_text whole part
