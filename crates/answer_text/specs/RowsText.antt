-- The rows of a table as text.
use Rattle.std.specs.Prelude.{ℕ, List, [], ◌∷◌, ◌++◌, codes, length, None}
use Rattle.std.specs.List.{flat_map}
use Rattle.std.specs.Fmt.{decimal}
use Rattle.bags_themes.specs.res_value.ResId.{id_text}
use Rattle.bags_themes.specs.type_chunks.Row.{RowOf, set_aside_count}
use Rattle.bags_themes.specs.overlay_map.Table.{TableOf, rows_of}
use Rattle.answer_text.specs.CellText.{RowFormatOf, row_end_text}

-- two spaces before the lines of a bag, and no strings
unfoldable pub rows_format : RowFormatOf
rows_format = record { indent = codes "  "; strings = None }

-- the line `row ID RECORD VALUE`, and those of a bag
unfoldable pub row_text : RowOf → List ℕ
row_text row = codes "row " ++ id_text row.id ++ codes " " ++ row_end_text rows_format row

-- the line `rows N set-aside M`
unfoldable pub totals_text : ℕ → ℕ → List ℕ
totals_text count set_aside = codes "rows " ++ decimal count ++ codes " set-aside " ++ decimal set_aside ++ 10 ∷ []

-- a line for each row in its order, and one with their totals
unfoldable pub rows_text : TableOf → List ℕ
rows_text table =
    flat_map row_text (rows_of table) ++ totals_text (length (rows_of table)) (set_aside_count (rows_of table))
