use Rattle.std.proofs.Common.{◌≡◌, ◌++◌}
use Rattle.type_chunks.specs.TypeRows.{rows_of_types, rows_of_each}
use Rattle.overlay_map.specs.Package.{package_of}
use Rattle.overlay_map.proofs.indexed_table.push_types.Given as goal

-- the rows so far and those of the types that are left are all rows
abbrev pub invariant-loop-checked : goal.invariant-loop-checked
invariant-loop-checked l = record {
  can : (goal.iterator-loop-checked).can_next l.checked-iterator;
  ends : (goal.iterator-loop-checked).is_finite l.checked-iterator;
  rows : rows_of_types l.types.items ++ rows_of_each l.checked-iterator ≡ rows_of_types l.fn.types.items ++ (package_of l.owner).rows;
}
