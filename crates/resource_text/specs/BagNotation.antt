-- The rows of a bag with those that it inherits, in Android's notation.
use Rattle.std.specs.Prelude.{ℕ, List, [], ◌∷◌, ◌++◌, codes}
use Rattle.std.specs.List.{flat_map, enumerate_from}
use Rattle.answer_text.specs.bag_rows.declared.bag_row.BagRow.{BagRow}
use Rattle.answer_text.specs.declared.row_key.Keys.{Keys}
use Rattle.answer_text.specs.RowKeys.{keys_of}
use Rattle.resource_text.specs.Naming.{NamingOf, row_at, layer_notation}

-- the line `KEY VALUE from LAYER` of the row at a place
unfoldable pub row_told : NamingOf → Keys → (ℕ × BagRow) → List ℕ
row_told naming keys row = row_at naming keys row.0 row.1 ++ codes " from " ++ layer_notation naming row.1.layer ++ 10 ∷ []

-- a line for each row of the bag that an id selects, in their order
abbrev pub rows_told : NamingOf → ℕ → List BagRow → List ℕ
rows_told naming id rows = flat_map (row_told naming (keys_of naming.stack id)) (enumerate_from 0 rows)
