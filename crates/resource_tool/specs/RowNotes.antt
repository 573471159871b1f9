-- What rows have that a device may read otherwise.
use Rattle.std.specs.Prelude.{ℕ, ◌==◌, ◌&&◌, ◌||◌, not, is_ok, Bool, false, List, [], ◌++◌}
use Rattle.std.specs.List.{list_any}
use Rattle.command_base.specs.cert_tree.config_box.config_record.declared.coord.Coord.TheVariants as coords
use Rattle.command_base.specs.cert_tree.config_box.config_record.locales.declared.locale_rule.LocaleRule.{LocaleRule}
use Rattle.command_base.specs.cert_tree.config_box.config_record.locales.declared.locale_rule.LocaleRule.TheVariants.{LanguageAndRegion, Android}
use Rattle.resource_tool.specs.NumberSaid.{number_said}
use Rattle.command_base.specs.cert_tree.config_box.config_record.Record.{is_set_aside}
use Rattle.command_base.specs.overlay_map.string_pool.Pool.{PoolOf}
use Rattle.command_base.specs.overlay_map.string_pool.Text.{text_in}
use Rattle.command_base.specs.overlay_map.res_value.Kind.{string_kind}
use Rattle.command_base.specs.overlay_map.res_value.Cell.{CellOf, PlainOf, BagOf}
use Rattle.command_base.specs.overlay_map.res_value.declared.res_id.ResId.{ResId}
use Rattle.command_base.specs.overlay_map.res_value.declared.value.Value.{Value}
use Rattle.command_base.specs.overlay_map.type_chunks.Row.{RowOf}
use Rattle.resource_tool.specs.declared.survey.finding.Finding.{Finding}
use Rattle.resource_tool.specs.declared.survey.finding.Finding.TheVariants.{DynamicReference, DynamicAttribute, BrokenString, SetAside, Locale, BoxLocale}
use Rattle.resource_tool.specs.declared.survey.site.Site.TheVariants.{Row}
use Rattle.resource_tool.specs.Findings.{Note, note_if}
use Rattle.resource_tool.specs.Locales.{differs_at, differs_somewhere}

-- the kinds of values of which AOSP looks up the package of a shared library (AOSP: Res_value::TYPE_DYNAMIC_REFERENCE,
-- TYPE_DYNAMIC_ATTRIBUTE)
abbrev pub dynamic_reference : ℕ
dynamic_reference = 0x07

abbrev pub dynamic_attribute : ℕ
dynamic_attribute = 0x08

abbrev pub is_bag_row_of_kind : ℕ → (ResId × Value) → Bool
is_bag_row_of_kind kind row = row.1.kind == kind

-- a value of this kind: that of the row, or one of its bag
abbrev pub has_kind : ℕ → CellOf → Bool
has_kind kind (PlainOf value) = value.kind == kind
has_kind kind (BagOf parent rows) = list_any (is_bag_row_of_kind kind) rows

-- a value that is a string which cannot be read
unfoldable pub is_broken : PoolOf → Value → Bool
is_broken strings value = value.kind == string_kind && not (is_ok (text_in strings value.word))

abbrev pub is_broken_bag_row : PoolOf → (ResId × Value) → Bool
is_broken_bag_row strings row = is_broken strings row.1

-- such a value: that of the row, or one of its bag
abbrev pub has_broken : PoolOf → CellOf → Bool
has_broken strings (PlainOf value) = is_broken strings value
has_broken strings (BagOf parent rows) = list_any (is_broken_bag_row strings) rows

abbrev pub row_locale : RowOf → ℕ
row_locale row = number_said row.config coords.Locale

-- AOSP compares it otherwise at some device
unfoldable pub is_for_other_locales : RowOf → Bool
is_for_other_locales row = differs_somewhere (row_locale row) (is_set_aside row.config)

-- and at a device with one of these locales
unfoldable pub is_for_one_of : List ℕ → RowOf → Bool
is_for_one_of locales row = list_any (differs_at (row_locale row) (is_set_aside row.config)) locales

abbrev pub note_row_if : Bool → Finding → RowOf → List Note
note_row_if found finding row = note_if found finding (Row (record { 0 = row.id }))

-- what its values are, whose strings are these
unfoldable pub notes_of_values : PoolOf → RowOf → List Note
notes_of_values strings row =
    note_row_if (has_kind dynamic_reference row.cell) DynamicReference row
    ++ (note_row_if (has_kind dynamic_attribute row.cell) DynamicAttribute row ++ note_row_if (has_broken strings row.cell) BrokenString row)

-- what its locale is, where these are the locales of the box: nothing where locales are compared as AOSP does it
unfoldable pub notes_of_locale : LocaleRule → List ℕ → RowOf → List Note
notes_of_locale LanguageAndRegion locales row =
    note_row_if (is_set_aside row.config) SetAside row
    ++ (note_row_if (is_for_other_locales row) Locale row ++ note_row_if (is_for_one_of locales row) BoxLocale row)
notes_of_locale Android locales row = []

-- what a row has, where locales are compared by this rule, and these are those of the box and the strings of its table
unfoldable pub notes_of_row : LocaleRule → List ℕ → PoolOf → RowOf → List Note
notes_of_row rule locales strings row = notes_of_values strings row ++ notes_of_locale rule locales row

-- one of its values is of such a kind, or cannot be read
abbrev pub values_differ : PoolOf → CellOf → Bool
values_differ strings cell = has_kind dynamic_reference cell || (has_kind dynamic_attribute cell || has_broken strings cell)

-- it is for a locale of the box, and AOSP compares it otherwise there
abbrev pub locale_differs : LocaleRule → List ℕ → RowOf → Bool
locale_differs LanguageAndRegion locales row = is_for_one_of locales row
locale_differs Android locales row = false

-- An answer can differ by a row with such a value, and by one for a locale of the box.
unfoldable pub row_differs : LocaleRule → List ℕ → PoolOf → RowOf → Bool
row_differs rule locales strings row = values_differ strings row.cell || locale_differs rule locales row
