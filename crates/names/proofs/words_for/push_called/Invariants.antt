use Rattle.std.proofs.Common.{◌≡◌, ◌++◌, map, take}
use Rattle.std.specs.List.{flat_map}
use Rattle.names.specs.NamedSet.{named_set_of}
use Rattle.names.specs.Packages.{package_name_of}
use Rattle.names.specs.AskedWords.{word_of_package, words_with}
use Rattle.names.proofs.words_for.push_called.Given as goal

abbrev pub invariant-loop-package : goal.invariant-loop-package
invariant-loop-package l = map named_set_of l.words.items
    ≡ map named_set_of l.fn.words.items ++ flat_map (words_with l.type_name l.entry_name) (flat_map (word_of_package l.number) (map package_name_of (take l.package-index l.packages)))
