-- The packages of tables, by their numbers and their names.
use Rattle.std.specs.Prelude.{ℕ, ◌==◌, ◌&&◌, Bool, true, false, List, map, Option, Some, None, Ok}
use Rattle.std.specs.Cow.{cow_str_bytes}
use Rattle.std.specs.List.{flat_map, list_any}
use Rattle.std.specs.Option.{option_map, option_map_or}
use Rattle.std.specs.Str.{bytes_eq}
use Rattle.overlay_map.specs.Package.{PackageOf}
use Rattle.overlay_map.specs.Table.{TableOf}
use Rattle.names.specs.NameText.{name_text}
use Rattle.names.specs.PackageWord.{PackageWordOf, Numbered, Called}
use Rattle.names.specs.declared.packages.PackageName.{PackageName}

-- A package, by its content, not its address.
pub record PackageNameOf : Type 0 where
  pub number : ℕ
  -- none where it is no text
  pub name : Option (List ℕ)

abbrev pub package_name_of : PackageName → PackageNameOf
package_name_of found = record { number = found.number; name = option_map cow_str_bytes found.name }

abbrev pub name_of_package : PackageOf → PackageNameOf
name_of_package read = record { number = read.header.id; name = name_text (Ok read.header.name) }

-- those of tables, in their order
unfoldable pub packages_in : List TableOf → List PackageNameOf
packages_in tables = flat_map (λ table. map name_of_package table.packages) tables

abbrev pub has_name : List ℕ → PackageNameOf → Bool
has_name name found = option_map_or (λ own. bytes_eq own name) found.name false

-- whether a package has this number and this name
abbrev pub is_called : List ℕ → ℕ → PackageNameOf → Bool
is_called name number found = found.number == number && has_name name found

-- Whether resources of the package with this number are asked for, where a word names this one: by a name all packages that are
-- called so.
abbrev pub is_asked_in : List PackageNameOf → Option PackageWordOf → ℕ → Bool
is_asked_in packages None number = true
is_asked_in packages (Some (Numbered other)) number = other == number
is_asked_in packages (Some (Called name)) number = list_any (is_called name number) packages
