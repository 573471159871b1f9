use Rattle.std.proofs.Common.{◌≡◌, filter, map, take}
use Rattle.std.specs.Option.{option_map}
use Rattle.res_value.specs.ResId.{package_of}
use Rattle.names.specs.PackageWord.{package_word_of}
use Rattle.names.specs.Packages.{is_asked_in, package_name_of}
use Rattle.names.proofs.finder.Finder.in_package.Given as goal

abbrev pub invariant-loop-id : goal.invariant-loop-id
invariant-loop-id l = l.kept.items ≡ filter (λ id. is_asked_in (map package_name_of l.self.packages.items) (option_map package_word_of l.word) (package_of id)) (take l.id-index l.ids)
