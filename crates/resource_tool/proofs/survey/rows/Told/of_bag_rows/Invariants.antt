use Rattle.command_base.specs.overlay_map.res_value.MapRows.{map_rows_of}
use Rattle.command_base.specs.overlay_map.string_pool.Pool.{pool_of}
use Rattle.resource_tool.specs.RowNotes.{dynamic_attribute, dynamic_reference, is_bag_row_of_kind, is_broken_bag_row}
use Rattle.resource_tool.proofs.AnySteps.{FindsAllBut}
use Rattle.resource_tool.proofs.survey.rows.Told.of_bag_rows.Given as goal

-- what is told of all rows but those that are left
abbrev pub invariant-loop-row : goal.invariant-loop-row
invariant-loop-row l = record {
  reference : FindsAllBut (is_bag_row_of_kind dynamic_reference) l.told.reference (map_rows_of l.fn.bag_rows) (map_rows_of l.row-iterator);
  attribute : FindsAllBut (is_bag_row_of_kind dynamic_attribute) l.told.attribute (map_rows_of l.fn.bag_rows) (map_rows_of l.row-iterator);
  broken : FindsAllBut (is_broken_bag_row (pool_of l.strings)) l.told.broken (map_rows_of l.fn.bag_rows) (map_rows_of l.row-iterator);
}
