-- The id map of an overlay, made from the names of types and entries (AOSP: ResTable::createIdmap).
use Rattle.std.specs.Prelude.{ℕ, Bool, ◌&&◌, ◌||◌, ◌==◌, List, [], ◌∷◌, ◌++◌, slice_get, Option, Some, None, if◌then◌else◌}
use Rattle.std.specs.List.{filter_map, flat_map, list_any}
use Rattle.std.specs.Option.{option_map, option_map_or}
use Rattle.command_base.specs.overlay_map.IdMap.{MapOf}
use Rattle.command_base.specs.answer_text.res_value.Cell.{CellOf, PlainOf, BagOf}
use Rattle.command_base.specs.answer_text.res_value.Kind.{reference_kind, attribute_kind}
use Rattle.command_base.specs.answer_text.res_value.ResId.{package_of}
use Rattle.command_base.specs.answer_text.res_value.declared.res_id.ResId.{ResId}
use Rattle.command_base.specs.answer_text.res_value.declared.value.Value.{Value}
use Rattle.command_base.specs.answer_text.overlay_map.Names.{type_name_in, key_name_in}
use Rattle.command_base.specs.answer_text.overlay_map.Table.{TableOf, rows_of}
use Rattle.command_base.specs.answer_text.type_chunks.Row.{RowOf}
use Rattle.command_base.specs.names.Names.{found_in}
use Rattle.command_base.specs.names.NameText.{name_text}
use Rattle.command_base.specs.FirstRows.{first_row, first_rows}

-- ---- the map

-- the id of these names, where both can be read
abbrev pub found_by : TableOf → Option (List ℕ) → Option (List ℕ) → Option ℕ
found_by table (Some type_name) (Some key_name) = found_in table type_name key_name
found_by table (Some type_name) None = None
found_by table None key_name = None

-- the overlay's id that has the names of a row of the target
unfoldable pub own_of : TableOf → TableOf → RowOf → Option ℕ
own_of target overlay row = found_by overlay (name_text (type_name_in target row)) (name_text (key_name_in target row))

abbrev pub package_of_row : RowOf → ℕ
package_of_row row = package_of (record { 0 = row.id })

-- the pair of a row's id, if that is of this package and the overlay has such an id
unfoldable pub pair_of : TableOf → TableOf → ℕ → RowOf → Option (ℕ × ℕ)
pair_of target overlay package_id row =
    if package_of_row row == package_id then option_map (λ own. (row.id, own)) (own_of target overlay row) else None

-- the pairs of all ids of a package of the target, in the order of these
abbrev pub pairs_in : TableOf → TableOf → ℕ → MapOf
pairs_in target overlay package_id = filter_map (pair_of target overlay package_id) (first_rows (rows_of target))

-- The map: the targets are the ids of one package, that of the target's first row, and the names of an id are those of its
-- first row.
unfoldable pub made_map : TableOf → TableOf → MapOf
made_map target overlay = option_map_or (λ first. pairs_in target overlay (package_of_row first)) (slice_get (rows_of target) 0) []

-- ---- what the map leaves out

-- an id of the overlay that stands for some target
abbrev pub carries : MapOf → ℕ → Bool
carries map id = list_any (λ pair. pair.1 == id) map

-- an id that stands for the target of the same number
abbrev pub keeps : MapOf → ℕ → Bool
keeps map id = list_any (λ pair. pair.0 == id && pair.1 == id) map

-- a row of an id that stands for no target
abbrev pub if_unmapped : MapOf → RowOf → Option RowOf
if_unmapped map row = if carries map row.id then None else Some row

-- the first row of each such id of the overlay, in the order of the ids
abbrev pub unmapped : TableOf → MapOf → List RowOf
unmapped overlay map = filter_map (if_unmapped map) (first_rows (rows_of overlay))

-- ---- references that go astray

-- a row of the overlay that refers to an id of the overlay, which stands for its first row
pub record AstrayOf : Type 0 where
  pub from : RowOf
  pub to : RowOf

abbrev pub going : RowOf → Option RowOf → List AstrayOf
going from (Some to) = record { from = from; to = to } ∷ []
going from None = []

-- A reference names an id of the stack. So one to an id of the overlay leads there only where the map keeps that id.
unfoldable pub astray_to : TableOf → MapOf → RowOf → ℕ → List AstrayOf
astray_to overlay map from id = if keeps map id then [] else going from (first_row (rows_of overlay) id)

-- that of a value, which is a reference or an attribute
unfoldable pub astray_by : TableOf → MapOf → RowOf → Value → List AstrayOf
astray_by overlay map from value =
    if value.kind == reference_kind || value.kind == attribute_kind then astray_to overlay map from value.word else []

-- those of a row of a bag: of its name and of its value
unfoldable pub astray_by_bag_row : TableOf → MapOf → RowOf → (ResId × Value) → List AstrayOf
astray_by_bag_row overlay map from row = astray_to overlay map from row.0.0 ++ astray_by overlay map from row.1

-- those of a cell; those of a bag begin with that of its parent
unfoldable pub astray_by_cell : TableOf → MapOf → RowOf → CellOf → List AstrayOf
astray_by_cell overlay map from (PlainOf value) = astray_by overlay map from value
astray_by_cell overlay map from (BagOf parent rows) = astray_to overlay map from parent.0 ++ flat_map (astray_by_bag_row overlay map from) rows

-- Those of a row. A row of an id that stands for no target is used by nobody.
unfoldable pub astray_in : TableOf → MapOf → RowOf → List AstrayOf
astray_in overlay map from = if carries map from.id then astray_by_cell overlay map from from.cell else []

-- those of all rows, in the order of the file
abbrev pub astray : TableOf → MapOf → List AstrayOf
astray overlay map = flat_map (astray_in overlay map) (rows_of overlay)
