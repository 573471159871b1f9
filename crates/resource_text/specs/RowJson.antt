-- The row of a table that no device loads, as a line of JSON.
use Rattle.std.specs.Prelude.{ℕ, ◌==◌, Bool, List, codes, length, if◌then◌else◌}
use Rattle.serde_json.specs.Data.{boolean, object, Members, no_members, put as with_member}
use Rattle.res_value.specs.Cell.{CellOf, PlainOf, BagOf}
use Rattle.answer_text.specs.type_chunks.Row.{RowOf}
use Rattle.resource_text.specs.EndJson.{place_data, resource_data, value_data_at, with_id}
use Rattle.resource_text.specs.LineJson.{line_members, line_json}
use Rattle.resource_text.specs.Naming.{NamingOf}
use Rattle.resource_text.specs.TextJson.{number_data}

-- ---- what a row holds of a table that is the only layer of a stack

-- the parent, where there is one
unfoldable pub with_parent : NamingOf → ℕ → Members → Members
with_parent naming parent others = if parent == 0 then others else with_member (codes "parent") (resource_data naming parent) others

-- a value, or a bag with its parent and so many rows
unfoldable pub with_cell : NamingOf → CellOf → Members → Members
with_cell naming (PlainOf value) others = with_member (codes "value") (value_data_at naming 0 value) others
with_cell naming (BagOf parent rows) others =
    with_member (codes "bag") (object (with_parent naming parent.0 (with_member (codes "rows") (number_data (length rows)) no_members))) others

-- ---- the line

-- A row of the layer at a place, which is an overlay or a base, whose table is the only layer of the stack of names; this becomes of it.
unfoldable pub row_json : NamingOf → ℕ → Bool → List ℕ → RowOf → List ℕ
row_json naming place overlay kind row =
    line_json (with_cell naming row.cell (with_member (codes "overlay") (boolean overlay)
    (with_member (codes "from") (place_data naming place row.config) (with_id naming row.id (line_members kind)))))
