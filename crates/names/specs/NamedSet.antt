-- What a word asks where several resources may stand: one of them, `[PACKAGE:]TYPE/*` or `*`.
use Rattle.std.specs.Prelude.{ℕ, List, codes, Option, Some, if◌then◌else◌}
use Rattle.std.specs.List.{before_first, after_first}
use Rattle.std.specs.Option.{option_map}
use Rattle.std.specs.Str.{bytes_eq}
use Rattle.names.specs.declared.named_set.NamedSet.{NamedSet}
use Rattle.names.specs.declared.named_set.NamedSet.TheVariants.{One, OfType, All}
use Rattle.names.specs.Named.{NamedOf, named_of, named_in, is_slash, type_word_in}
use Rattle.names.specs.PackageWord.{PackageWordOf, package_word_of}

-- one resource, those of a type, in a package where one is named, or all
pub data NamedSetOf : Type 0 where
  SetOfOne : NamedOf → NamedSetOf
  SetOfType : Option PackageWordOf → List ℕ → NamedSetOf
  SetOfAll : NamedSetOf

abbrev pub named_set_of : NamedSet → NamedSetOf
named_set_of (One named) = SetOfOne (named_of named)
named_set_of (OfType in_package type_name) = SetOfType (option_map package_word_of in_package) type_name.now
named_set_of All = SetOfAll

-- `TYPE/*` and `PACKAGE:TYPE/*` are sets, `*` is the set of all, and any other word asks for one
unfoldable pub named_set_in : List ℕ → Option NamedSetOf
named_set_in word =
    if bytes_eq word (codes "*") then Some SetOfAll
    else if bytes_eq (after_first is_slash word) (codes "*")
    then option_map (λ of_type. SetOfType of_type.in_package of_type.type_name) (type_word_in (before_first is_slash word))
    else option_map (λ named. SetOfOne named) (named_in word)
