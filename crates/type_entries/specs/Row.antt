-- Rows.
use Rattle.std.specs.Prelude.{ℕ, List, filter, count_by, ◌==◌}
use Rattle.config_record.specs.Record.{record_bytes, is_set_aside}
use Rattle.res_value.specs.Cell.{CellOf, cell_of}
use Rattle.type_entries.specs.declared.row.Row.{Row}

-- A row of a table, by its content, not its address.
pub record RowOf : Type 0 where
  -- the id of its resource
  pub id : ℕ
  -- the bytes of its configuration
  pub config : List ℕ
  pub cell : CellOf
  -- the type spec's flags for this entry
  pub flags : ℕ
  -- the index of its name among the package's names of entries
  pub key : ℕ
  -- the index of its package among the table's packages: `Row.package`
  pub in_package : ℕ

abbrev pub row_of : Row → RowOf
row_of row = record { id = row.id.0; config = record_bytes row.config; cell = cell_of row.cell; flags = row.flags; key = row.key; in_package = row.package }

-- the rows of one id, in their order
abbrev pub with_id : ℕ → List RowOf → List RowOf
with_id id rows = filter (λ row. row.id == id) rows

-- how many of the rows are set aside: those with a script or a variant, which by language and region match no device
abbrev pub set_aside_count : List RowOf → ℕ
set_aside_count rows = count_by (λ row. is_set_aside row.config) rows
