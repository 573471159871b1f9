use Rattle.std.proofs.Common.{◌≡◌, map, drop}
use Rattle.std.specs.List.{list_all}
use Rattle.names.specs.Packages.{package_name_of}
use Rattle.names.specs.WordText.{is_told}
use Rattle.names.proofs.word_text.is_told.Given as goal

-- no package so far of another number has the name
abbrev pub invariant-packages : goal.invariant-packages
invariant-packages l = list_all (is_told l.name l.number) (map package_name_of (drop l.package-index l.packages)) ≡ list_all (is_told l.name l.number) (map package_name_of l.packages)
