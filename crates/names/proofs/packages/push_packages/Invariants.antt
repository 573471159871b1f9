use Rattle.std.proofs.Common.{◌≡◌, ◌++◌, map, take}
use Rattle.overlay_map.specs.Package.{packages_of}
use Rattle.names.specs.Packages.{package_name_of, name_of_package}
use Rattle.names.proofs.packages.push_packages.Given as goal

abbrev pub invariant-loop-package : goal.invariant-loop-package
invariant-loop-package l = map package_name_of l.all.items ≡ map package_name_of l.fn.all.items ++ map name_of_package (packages_of (take l.package-index l.packages))
