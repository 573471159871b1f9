use Rattle.std.proofs.Common.{◌≡◌}
use Rattle.std.specs.List.{flat_map}
use Rattle.command_base.specs.overlay_map.Table.{rows_of}
use Rattle.resource_tool.specs.Counting.{counted, said_by}
use Rattle.resource_tool.proofs.survey.qualifiers.Qualifiers.add_table.Given as goal

-- with what the rows that are left say it comes to what all rows say
abbrev pub invariant-loop-row : goal.invariant-loop-row
invariant-loop-row l = record {
  can : (goal.iterator-loop-row).can_next l.row-iterator;
  ends : (goal.iterator-loop-row).is_finite l.row-iterator;
  left : counted l.self (flat_map said_by l.row-iterator) ≡ counted l.fn.self (flat_map said_by (rows_of l.table));
}
