-- The rows of a table as text, in Android's notation.
use Rattle.std.specs.Prelude.{ℕ, ◌==◌, List, [], ◌∷◌, ◌++◌, codes, length, None, if◌then◌else◌}
use Rattle.std.specs.List.{flat_map, enumerate_from}
use Rattle.std.specs.Fmt.{decimal}
use Rattle.notation.specs.ConfigText.{config_text}
use Rattle.res_value.specs.Cell.{CellOf, PlainOf, BagOf}
use Rattle.res_value.specs.ResId.{id_text}
use Rattle.res_value.specs.declared.res_id.ResId.{ResId}
use Rattle.res_value.specs.declared.value.Value.{Value}
use Rattle.answer_text.specs.type_chunks.Row.{RowOf, set_aside_count}
use Rattle.answer_text.specs.overlay_map.Package.{PackageOf}
use Rattle.answer_text.specs.overlay_map.Table.{TableOf, rows_of}
use Rattle.answer_text.specs.declared.row_key.Keys.{Keys}
use Rattle.answer_text.specs.DumpText.{package_line, flags_text}
use Rattle.answer_text.specs.NameText.{its_name}
use Rattle.answer_text.specs.RowKeys.{keys_of}
use Rattle.answer_text.specs.RowsText.{totals_text}
use Rattle.resource_text.specs.Naming.{NamingOf, id_notation, value_at, row_at}

-- a table as the only layer of a stack, whose path nobody asks for
abbrev pub alone : TableOf → NamingOf
alone table = record { stack = record { table = table; map = None } ∷ []; paths = [] }

-- ---- what a row holds

-- ` parent NAME`, where there is one
unfoldable pub parent_notation : NamingOf → ℕ → List ℕ
parent_notation naming parent = if parent == 0 then [] else codes " parent " ++ id_notation naming parent

-- `bag parent NAME count N`
unfoldable pub bag_notation : NamingOf → ℕ → ℕ → List ℕ
bag_notation naming parent count = codes "bag" ++ parent_notation naming parent ++ codes " count " ++ decimal count

unfoldable pub cell_notation : NamingOf → CellOf → List ℕ
cell_notation naming (PlainOf value) = value_at naming 0 value
cell_notation naming (BagOf parent rows) = bag_notation naming parent.0 (length rows)

-- ---- the rows of a bag

-- the line `KEY VALUE`, behind an indent
unfoldable pub map_row_notation : NamingOf → List ℕ → Keys → (ℕ × (ResId × Value)) → List ℕ
map_row_notation naming indent keys row =
    indent ++ row_at naming keys row.0 (record { name = row.1.0; value = row.1.1; layer = 0 }) ++ 10 ∷ []

-- the lines of the rows of the bag that an id has, in the order of the file
unfoldable pub map_rows_notation : NamingOf → List ℕ → ℕ → CellOf → List ℕ
map_rows_notation naming indent id (PlainOf value) = []
map_rows_notation naming indent id (BagOf parent rows) = flat_map (map_row_notation naming indent (keys_of naming.stack id)) (enumerate_from 0 rows)

-- ---- rows

-- how the line of a row ends, `CONFIG VALUE`, and the lines of a bag
unfoldable pub row_end_notation : NamingOf → List ℕ → RowOf → List ℕ
row_end_notation naming indent row =
    config_text row.config ++ codes " " ++ cell_notation naming row.cell ++ 10 ∷ [] ++ map_rows_notation naming indent row.id row.cell

-- the line `row ID CONFIG VALUE`, and those of a bag
unfoldable pub row_notation : NamingOf → RowOf → List ℕ
row_notation naming row = codes "row " ++ id_text row.id ++ codes " " ++ row_end_notation naming (codes "  ") row

-- a line for each row in its order, and one with their totals
unfoldable pub rows_in : NamingOf → TableOf → List ℕ
rows_in naming table =
    flat_map (row_notation naming) (rows_of table) ++ totals_text (length (rows_of table)) (set_aside_count (rows_of table))

-- ---- packages

-- the line `  ID NAME flags FLAGS CONFIG VALUE`, and those of a bag
unfoldable pub dump_row_notation : NamingOf → RowOf → List ℕ
dump_row_notation naming row =
    codes "  " ++ id_text row.id ++ its_name naming.stack row.id ++ flags_text row.flags ++ codes " " ++ row_end_notation naming (codes "    ") row

-- the line of a package, and those of its rows in their order
unfoldable pub package_notation : NamingOf → PackageOf → List ℕ
package_notation naming owner = package_line owner ++ flat_map (dump_row_notation naming) owner.rows

-- the packages of a table, in the order of the file
unfoldable pub dump_in : NamingOf → TableOf → List ℕ
dump_in naming table = flat_map (package_notation naming) table.packages

-- ---- a table by itself

abbrev pub rows_notation : TableOf → List ℕ
rows_notation table = rows_in (alone table) table

abbrev pub dump_notation : TableOf → List ℕ
dump_notation table = dump_in (alone table) table
