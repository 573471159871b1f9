-- What the layers of a stack have that a device may read otherwise.
use Rattle.std.specs.Prelude.{ℕ, ◌||◌, Bool, List, [], ◌++◌, Option, Some, None, slice_get}
use Rattle.std.specs.List.{flat_map, list_any}
use Rattle.std.specs.Option.{option_map}
use Rattle.command_base.specs.cert_tree.config_box.config_record.locales.declared.locale_rule.LocaleRule.{LocaleRule}
use Rattle.command_base.specs.overlay_map.string_pool.Pool.{PoolOf, empty_pool}
use Rattle.command_base.specs.overlay_map.type_chunks.Row.{RowOf}
use Rattle.command_base.specs.overlay_map.Table.{TableOf, rows_of}
use Rattle.command_base.specs.overlay_map.Layer.{LayerOf}
use Rattle.command_base.specs.StackBytes.{LayerBytes}
use Rattle.resource_tool.specs.Findings.{Note}
use Rattle.resource_tool.specs.Chunks.{notes_of_chunks}
use Rattle.resource_tool.specs.Differs.{table_differs}
use Rattle.resource_tool.specs.RowNotes.{notes_of_row, row_differs}

abbrev pub rows_of_found : Option TableOf → List RowOf
rows_of_found None = []
rows_of_found (Some table) = rows_of table

-- the rows of the layer at a place
unfoldable pub rows_at : List LayerOf → ℕ → List RowOf
rows_at stack place = rows_of_found (option_map (λ layer. layer.table) (slice_get stack place))

abbrev pub strings_of_found : Option TableOf → PoolOf
strings_of_found None = empty_pool
strings_of_found (Some table) = table.strings

-- its strings
unfoldable pub strings_at : List LayerOf → ℕ → PoolOf
strings_at stack place = strings_of_found (option_map (λ layer. layer.table) (slice_get stack place))

-- the notes of its rows, where locales are compared by this rule, and these are those of the box
abbrev pub notes_of_rows : LocaleRule → List LayerOf → List ℕ → ℕ → List Note
notes_of_rows rule stack locales place = flat_map (notes_of_row rule locales (strings_at stack place)) (rows_at stack place)

-- what the layer of these bytes at a place has, where locales are compared by this rule, and these are those of the box
unfoldable pub notes_of_layer : LocaleRule → List LayerOf → List ℕ → (ℕ × LayerBytes) → List Note
notes_of_layer rule stack locales numbered = notes_of_chunks numbered.1.table ++ notes_of_rows rule stack locales numbered.0

-- an answer can differ by one of its chunks or rows
unfoldable pub layer_differs : LocaleRule → List LayerOf → List ℕ → (ℕ × LayerBytes) → Bool
layer_differs rule stack locales numbered =
    table_differs numbered.1.table || list_any (row_differs rule locales (strings_at stack numbered.0)) (rows_at stack numbered.0)
