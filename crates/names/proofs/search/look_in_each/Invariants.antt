use Rattle.std.proofs.Common.{◌≡◌, map, drop}
use Rattle.names.specs.Sought.{entry_names, noted_in, ArePlacesOf}
use Rattle.names.proofs.search.look_in_each.Given as goal

-- with the tables that are left, all tables were looked at
abbrev pub invariant-loop-table : goal.invariant-loop-table
invariant-loop-table l = record {
  places : ArePlacesOf l.places (entry_names l.sought);
  noted : map (noted_in (map (λ table. table.now) (drop l.table-index l.tables))) l.sought ≡ map (noted_in (map (λ table. table.now) l.tables)) l.fn.sought;
}
