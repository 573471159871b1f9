-- The devices of a part of a box as a JSON value: what the part has at the coordinates where it is narrower, as a box has it.
use Rattle.std.specs.Prelude.{ℕ, List, codes, map, fold, if◌then◌else◌}
use Rattle.serde_json.specs.Data.{Data, object, Members, no_members, put as with_member}
use Rattle.config_box.specs.config_record.declared.coord.Coord.{Coord}
use Rattle.config_box.specs.config_record.Coord.{all_coords, name_of}
use Rattle.config_box.specs.config_record.locales.LocaleNumber.{locale_of_number}
use Rattle.config_box.specs.config_record.locales.Text.{locale_text}
use Rattle.config_box.specs.box_answers.NumberSet.{SetOf, RangeOf, NumbersOf, LocalesOf}
use Rattle.config_box.specs.box_answers.Members.{set_at}
use Rattle.notation.specs.Narrower.{is_narrower}
use Rattle.resource_text.specs.TextJson.{text_data, number_data, list_data}

-- ---- the values of a coordinate

-- a locale by its number; that of a device without one is empty
abbrev pub locale_data : ℕ → Data
locale_data number = text_data (locale_text (locale_of_number number))

-- a range, or a list
unfoldable pub set_data : SetOf → Data
set_data (RangeOf low high) = object (with_member (codes "to") (number_data high) (with_member (codes "from") (number_data low) no_members))
set_data (NumbersOf numbers) = list_data (map number_data numbers)
set_data (LocalesOf numbers) = list_data (map locale_data numbers)

-- ---- where a part is narrower than the whole

-- with a member for a coordinate, if the part is narrower there
unfoldable pub with_narrower : List SetOf → List SetOf → Members → Coord → Members
with_narrower whole part members c = if is_narrower whole part c then with_member (name_of c) (set_data (set_at part c)) members else members

unfoldable pub devices_data : List SetOf → List SetOf → Data
devices_data whole part = object (fold (with_narrower whole part) no_members all_coords)
