-- What a resource is called, as text: by the word that asks for it, where that is read so.
use Rattle.std.specs.Prelude.{ℕ, ◌==◌, ◌&&◌, ◌||◌, not, Bool, List, ◌++◌, codes, Option, Some, None, is_some, if◌then◌else◌}
use Rattle.std.specs.List.{list_all, list_any}
use Rattle.res_value.specs.ResId.{id_text}
use Rattle.names.specs.Label.{FullNameOf, LabelOf, ByName, ById}
use Rattle.names.specs.Named.{is_colon, is_slash}
use Rattle.names.specs.PackageWord.{PackageWordOf}
use Rattle.names.specs.Packages.{PackageNameOf}
use Rattle.names.specs.Plain.{is_plain}
use Rattle.names.specs.Quoted.{quoted_text}
use Rattle.names.specs.WordText.{before_type, package_word_for}

-- ---- the package

-- the number of an app's own package
abbrev pub app_package : ℕ
app_package = 0x7f

abbrev pub is_apps : PackageNameOf → Bool
is_apps found = found.number == app_package

-- none where it is an app's own, and so are all
unfoldable pub package_before : List PackageNameOf → ℕ → Option PackageWordOf
package_before packages number =
    if number == app_package && list_all is_apps packages then None else Some (package_word_for packages number)

-- ---- the parts

-- a type that neither a `/` parts nor a `:`, which parts no type behind a package
abbrev pub is_bare_type : Option PackageWordOf → List ℕ → Bool
is_bare_type in_package type_name = is_plain type_name && not (list_any is_slash type_name) && (is_some in_package || not (list_any is_colon type_name))

-- bare, or between quotes
unfoldable pub bare_or_quoted : Bool → List ℕ → List ℕ
bare_or_quoted bare name = if bare then name else quoted_text name

-- `TYPE/ENTRY`, behind this package
unfoldable pub parts_text : Option PackageWordOf → List ℕ → List ℕ → List ℕ
parts_text in_package type_name entry_name =
    bare_or_quoted (is_bare_type in_package type_name) type_name ++ codes "/" ++ bare_or_quoted (is_plain entry_name) entry_name

-- ---- the name

-- `[PACKAGE:]TYPE/ENTRY`, where these are the packages
unfoldable pub full_name_text : List PackageNameOf → FullNameOf → List ℕ
full_name_text packages name =
    let in_package = package_before packages name.package_id in
    before_type in_package ++ parts_text in_package name.type_name name.entry_name

-- a name, or an id as ids are written
unfoldable pub label_text : List PackageNameOf → LabelOf → List ℕ
label_text packages (ByName name) = full_name_text packages name
label_text packages (ById id) = id_text id.0
