use Rattle.std.proofs.Common.{◌≡◌, ◌++◌}
use Rattle.res_value.specs.MapRows.{map_rows_of}
use Rattle.bag_rows.specs.Merge.{merge, rows_in}
use Rattle.bag_rows.proofs.merging.merge.Given as goal

-- the rows so far stand before what the own rows and the inherited rows that are left become
abbrev pub invariant-loop-name : goal.invariant-loop-name
invariant-loop-name l = record {
  can : (goal.iterator-loop-name).can_next l.name-iterator;
  ends : (goal.iterator-loop-name).is_finite l.name-iterator;
  left : merge l.inherited (rows_in l.layer (map_rows_of l.own)) ≡ l.rows.items ++ merge l.left (rows_in l.layer (map_rows_of l.name-iterator));
}
