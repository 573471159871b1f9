use Rattle.std.proofs.Common.{◌≡◌, take}
use Rattle.overlay_map.specs.Package.{packages_of, rows_of_packages}
use Rattle.type_chunks.specs.TypeRows.{rows_of_types}
use Rattle.overlay_map.proofs.indexed_table.types_of.Given as goal

-- the types are those of the packages so far
abbrev pub invariant-loop-package : goal.invariant-loop-package
invariant-loop-package l = rows_of_types l.types.items ≡ rows_of_packages (take l.package-index (packages_of l.packages))
