-- Cells, by their content, not their address.
use Rattle.std.specs.Prelude.{List}
use Rattle.res_value.specs.declared.cell.Cell.{Cell}
use Rattle.res_value.specs.declared.cell.Cell.TheVariants.{Plain, Bag}
use Rattle.res_value.specs.declared.res_id.ResId.{ResId}
use Rattle.res_value.specs.declared.value.Value.{Value}
use Rattle.res_value.specs.MapRows.{map_rows_of}

-- what an entry holds: a value, or a parent and a list of rows
pub data CellOf : Type 0 where
  PlainOf : Value → CellOf
  BagOf : ResId → List (ResId × Value) → CellOf

abbrev pub cell_of : Cell → CellOf
cell_of (Plain value) = PlainOf value
cell_of (Bag parent rows) = BagOf parent (map_rows_of rows)
