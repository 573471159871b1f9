-- The rows of a bag with those that it inherits, as lines of JSON.
use Rattle.std.specs.Prelude.{ℕ, List, codes, Some}
use Rattle.std.specs.List.{flat_map, enumerate_from}
use Rattle.serde_json.specs.Data.{Members, put as with_member}
use Rattle.res_value.specs.ResId.{id_text}
use Rattle.names.specs.NamedIds.{packages_of}
use Rattle.answer_text.specs.bag_rows.declared.bag_row.BagRow.{BagRow}
use Rattle.answer_text.specs.declared.row_key.Keys.{Keys}
use Rattle.answer_text.specs.RowKeys.{keys_of, row_key}
use Rattle.answer_text.specs.ValueContent.{value_content}
use Rattle.resource_text.specs.ContentJson.{with_row}
use Rattle.resource_text.specs.EndJson.{with_from_layer}
use Rattle.resource_text.specs.LineJson.{line_members, line_json}
use Rattle.resource_text.specs.Naming.{NamingOf}
use Rattle.resource_text.specs.TextJson.{text_data}

-- what tells the row at a place from the others, and what it says
unfoldable pub with_row_at : NamingOf → Keys → ℕ → BagRow → Members → Members
with_row_at naming keys place row others =
    with_row (packages_of naming.stack) (Some row.value) (row_key naming.stack keys place row.name.0) (value_content naming.stack row.layer row.value) others

-- its line, behind the id that names the row
unfoldable pub row_json : NamingOf → Keys → (ℕ × BagRow) → List ℕ
row_json naming keys row =
    line_json (with_from_layer naming row.1.layer (with_row_at naming keys row.0 row.1 (with_member (codes "id") (text_data (id_text row.1.name.0)) (line_members (codes "row")))))

-- a line for each row of the bag that an id selects, in their order
abbrev pub rows_json : NamingOf → ℕ → List BagRow → List ℕ
rows_json naming id rows = flat_map (row_json naming (keys_of naming.stack id)) (enumerate_from 0 rows)
