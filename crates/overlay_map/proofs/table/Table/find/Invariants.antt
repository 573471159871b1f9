use Rattle.std.proofs.Common.{◌≡◌, find}
use Rattle.overlay_map.specs.Names.{has_names}
use Rattle.overlay_map.specs.Table.{rows_of}
use Rattle.overlay_map.proofs.table.Table.find.Given as goal

-- of the rows that were passed over none has the names
abbrev pub invariant-loop-row : goal.invariant-loop-row
invariant-loop-row l = record {
  can : (goal.iterator-loop-row).can_next l.row-iterator;
  ends : (goal.iterator-loop-row).is_finite l.row-iterator;
  none : find (has_names l.self l.kind l.key) l.row-iterator ≡ find (has_names l.self l.kind l.key) (rows_of l.self);
}
