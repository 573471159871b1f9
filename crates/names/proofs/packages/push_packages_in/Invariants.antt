use Rattle.std.proofs.Common.{◌≡◌, ◌++◌, map, take}
use Rattle.names.specs.Packages.{package_name_of, packages_in}
use Rattle.names.proofs.packages.push_packages_in.Given as goal

abbrev pub invariant-loop-table : goal.invariant-loop-table
invariant-loop-table l = map package_name_of l.all.items ≡ map package_name_of l.fn.all.items ++ packages_in (map (λ table. table.now) (take l.table-index l.tables))
