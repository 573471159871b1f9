-- The row that gives an id its name.
use Rattle.std.specs.Prelude.{ℕ, List, [], ◌∷◌, slice_get, Option, None, if◌then◌else◌}
use Rattle.std.specs.Option.{option_map, option_or}
use Rattle.type_chunks.specs.Row.{RowOf, row_of, with_id}
use Rattle.overlay_map.specs.Table.{TableOf, rows_of}
use Rattle.overlay_map.specs.declared.base_row.BaseRow.{BaseRow}
use Rattle.overlay_map.specs.Layer.{LayerOf, is_base}

-- A row, with the table that it is of.
pub record BaseRowOf : Type 0 where
  pub table : TableOf
  pub row : RowOf

abbrev pub base_row_of : BaseRow → BaseRowOf
base_row_of found = record { table = found.table.now; row = row_of found.row }

-- the first row of an id in a layer that is a base
abbrev pub base_row_in : LayerOf → ℕ → Option BaseRowOf
base_row_in layer id =
    if is_base layer then option_map (λ row. record { table = layer.table; row = row }) (slice_get (with_id id (rows_of layer.table)) 0)
    else None

-- the first row of an id in the first base layer that has one
abbrev pub first_base_row : List LayerOf → ℕ → Option BaseRowOf
first_base_row [] id = None
first_base_row (layer ∷ layers) id = option_or (base_row_in layer id) (first_base_row layers id)
