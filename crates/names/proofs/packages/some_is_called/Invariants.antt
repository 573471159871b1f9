use Rattle.std.proofs.Common.{◌≡◌, map, drop}
use Rattle.std.specs.List.{list_any}
use Rattle.names.specs.Packages.{is_called, package_name_of}
use Rattle.names.proofs.packages.some_is_called.Given as goal

-- no package so far is called so
abbrev pub invariant-packages : goal.invariant-packages
invariant-packages l =
    list_any (is_called l.name l.number) (map package_name_of (drop l.package-index l.packages)) ≡ list_any (is_called l.name l.number) (map package_name_of l.packages)
