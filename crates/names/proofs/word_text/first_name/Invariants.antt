use Rattle.std.proofs.Common.{◌≡◌, ◌==◌, find, map, drop}
use Rattle.names.specs.Packages.{package_name_of}
use Rattle.names.proofs.word_text.first_name.Given as goal

-- no package so far has the number
abbrev pub invariant-packages : goal.invariant-packages
invariant-packages l =
    find (λ found. found.number == l.number) (map package_name_of (drop l.package-index l.packages)) ≡ find (λ found. found.number == l.number) (map package_name_of l.packages)
