use Rattle.std.proofs.Common.{◌≡◌, ◌++◌, [], length}
use Rattle.std.specs.Option.{unwrap_or}
use Rattle.type_chunks.specs.TypeRows.{rows_of_each}
use Rattle.overlay_map.proofs.package_rows.PackageRowsIterator.next.Given as goal

-- only types without rows were passed over
abbrev pub invariant-types : goal.invariant-types
invariant-types l = unwrap_or l.self-inside.left [] ++ rows_of_each l.self-inside.types ≡ l.fn.self

abbrev pub decreases-types : goal.decreases-types
decreases-types l = length l.self-inside.types
