-- How words are written, the number of a package and the digits of an id in lower case; and which resources a name may stand for,
-- where it stands for ids of two packages.
use Rattle.std.specs.Prelude.{ℕ, ◌==◌, ◌&&◌, ◌||◌, not, Bool, List, [], ◌∷◌, ◌++◌, codes, find, Option, Some, None, is_none, if◌then◌else◌}
use Rattle.std.specs.List.{list_all, list_any}
use Rattle.std.specs.Option.{option_and_then, option_map_or}
use Rattle.hex.specs.Hex.{encode_lower}
use Rattle.res_value.specs.ResId.{id_text, package_of}
use Rattle.res_value.specs.declared.res_id.ResId.{ResId}
use Rattle.names.specs.Named.{ById, ByName, is_colon, is_slash}
use Rattle.names.specs.NamedSet.{NamedSetOf, SetOfOne, SetOfType, SetOfAll}
use Rattle.names.specs.Names.{WantedOf}
use Rattle.names.specs.PackageWord.{PackageWordOf, Numbered, Called, number_in}
use Rattle.names.specs.Packages.{PackageNameOf, has_name}
use Rattle.names.specs.Plain.{is_plain}

-- ---- packages

-- `0x01`
abbrev pub number_text : ℕ → List ℕ
number_text number = codes "0x" ++ encode_lower (number ∷ [])

abbrev pub package_word_text : PackageWordOf → List ℕ
package_word_text (Numbered number) = number_text number
package_word_text (Called name) = name

-- `PACKAGE:`, where a package is named
abbrev pub before_type : Option PackageWordOf → List ℕ
before_type None = []
before_type (Some in_package) = package_word_text in_package ++ codes ":"

-- ---- words

-- `[PACKAGE:]TYPE/ENTRY`
abbrev pub name_text : Option PackageWordOf → List ℕ → List ℕ → List ℕ
name_text in_package type_name entry_name = before_type in_package ++ (type_name ++ codes "/" ++ entry_name)

abbrev pub wanted_text : WantedOf → List ℕ
wanted_text wanted = name_text wanted.in_package wanted.name.type_name wanted.name.entry_name

abbrev pub text_of_set : NamedSetOf → List ℕ
text_of_set (SetOfOne (ById id)) = id_text id.0
text_of_set (SetOfOne (ByName in_package type_name entry_name)) = name_text in_package type_name entry_name
text_of_set (SetOfType in_package type_name) = name_text in_package type_name (codes "*")
text_of_set SetOfAll = codes "*"

-- ---- the package of an id

-- a text that a word has before its `:` as the name of a package
abbrev pub can_name : List ℕ → Bool
can_name name = is_plain name && not (list_any is_colon name) && not (list_any is_slash name) && is_none (number_in name)

-- a package with this number, or with another name
abbrev pub is_told : List ℕ → ℕ → PackageNameOf → Bool
is_told name number other = other.number == number || not (has_name name other)

-- the name of a package, where a word can have it and no package of another number is called so
unfoldable pub package_told : List PackageNameOf → ℕ → List ℕ → PackageWordOf
package_told packages number name = if can_name name && list_all (is_told name number) packages then Called name else Numbered number

-- the word for the package with a number: the name of the first with this number, where that tells it, and else the number
unfoldable pub package_word_for : List PackageNameOf → ℕ → PackageWordOf
package_word_for packages number =
    option_map_or (package_told packages number) (option_and_then (λ found. found.name) (find (λ found. found.number == number) packages)) (Numbered number)

-- ---- two resources

-- `NAME: PACKAGE:TYPE/ENTRY, PACKAGE:TYPE/ENTRY`
abbrev pub name_in_package : List PackageNameOf → WantedOf → ResId → List ℕ
name_in_package packages wanted id = name_text (Some (package_word_for packages (package_of id))) wanted.name.type_name wanted.name.entry_name

unfoldable pub both_names : List PackageNameOf → WantedOf → ResId → ResId → List ℕ
both_names packages wanted first other = name_in_package packages wanted first ++ codes ", " ++ name_in_package packages wanted other

unfoldable pub two_text : List PackageNameOf → WantedOf → ResId → ResId → List ℕ
two_text packages wanted first other = wanted_text wanted ++ codes ": " ++ both_names packages wanted first other
