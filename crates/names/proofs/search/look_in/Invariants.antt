use Rattle.std.proofs.Common.{◌≡◌, map}
use Rattle.overlay_map.specs.Table.{rows_of}
use Rattle.names.specs.Sought.{AreSought}
use Rattle.names.specs.Sought.{noted_each, entry_names, ArePlacesOf}
use Rattle.names.proofs.search.look_in.Given as goal

-- with the rows that are left, all rows are noted
abbrev pub invariant-loop-row : goal.invariant-loop-row
invariant-loop-row l = record {
  can : (goal.iterator-loop-row).can_next l.row-iterator;
  ends : (goal.iterator-loop-row).is_finite l.row-iterator;
  places : ArePlacesOf l.places (entry_names l.sought);
  passed : AreSought l.table l.passed l.sought;
  noted : map (noted_each l.table l.row-iterator) l.sought ≡ map (noted_each l.table (rows_of l.table)) l.fn.sought;
}
