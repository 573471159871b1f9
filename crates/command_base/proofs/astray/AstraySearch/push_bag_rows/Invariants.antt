use Rattle.std.proofs.Common.{◌++◌, map}
use Rattle.std.specs.List.{flat_map}
use Rattle.command_base.specs.answer_text.res_value.MapRows.{map_rows_of}
use Rattle.command_base.specs.answer_text.type_chunks.Row.{row_of}
use Rattle.command_base.specs.AstraySeen.{astray_of, map_of, overlay_of}
use Rattle.command_base.specs.MadeMap.{astray_by_bag_row}
use Rattle.command_base.proofs.LoopSteps.{JoinsAllBut}
use Rattle.command_base.proofs.astray.AstraySearch.push_bag_rows.Given as goal

-- those of all rows of the bag were pushed but of the rows that are left
abbrev pub invariant-loop-name : goal.invariant-loop-name
invariant-loop-name l =
    JoinsAllBut (astray_by_bag_row (overlay_of l.self) (map_of l.self) (row_of l.row)) (map astray_of l.found.items)
    (map astray_of l.fn.found.items ++ flat_map (astray_by_bag_row (overlay_of l.self) (map_of l.self) (row_of l.row)) (map_rows_of l.fn.bag_rows))
    (map_rows_of l.name-iterator)
