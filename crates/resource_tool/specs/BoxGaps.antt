-- What a box has to say, and does not.
use Rattle.std.specs.Prelude.{ℕ, ◌==◌, ◌&&◌, not, Bool, false, List, [], Option, Some, None, length}
use Rattle.std.specs.List.{list_all}
use Rattle.command_base.specs.cert_tree.config_box.config_record.declared.coord.Coord as coord
use Rattle.command_base.specs.cert_tree.config_box.config_record.declared.coord.Coord.TheVariants as coords
use Rattle.command_base.specs.cert_tree.box_answers.NumberSet.{SetOf, RangeOf, NumbersOf, LocalesOf, named_numbers}
use Rattle.command_base.specs.cert_tree.box_answers.Members.{set_at}
use Rattle.command_base.specs.overlay_map.type_chunks.Row.{RowOf}
use Rattle.resource_tool.specs.Locales.{says_nothing}
use Rattle.resource_tool.specs.Qualifiers.{numbers_at}

-- the locales of a set, by their numbers
abbrev pub locales_of_set : SetOf → List ℕ
locales_of_set (RangeOf low high) = []
locales_of_set (NumbersOf numbers) = []
locales_of_set (LocalesOf numbers) = numbers

-- the locales of a box; without one there are none
unfoldable pub locales_of_box : Option (List SetOf) → List ℕ
locales_of_box None = []
locales_of_box (Some sets) = locales_of_set (set_at sets coords.Locale)

-- a coordinate is unknown at all members: 0, or a locale without a language and a region
abbrev pub is_unknown : SetOf → Bool
is_unknown (LocalesOf numbers) = list_all says_nothing numbers
is_unknown set = list_all (λ n. n == 0) (named_numbers set)

-- a box leaves unknown what some row has
unfoldable pub lacks : Option (List SetOf) → List RowOf → coord.Coord → Bool
lacks None rows c = false
lacks (Some sets) rows c = not (length (numbers_at c rows) == 0) && is_unknown (set_at sets c)
