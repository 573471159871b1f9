-- Names of resources, and the first resource of a name.
use Rattle.std.specs.Prelude.{ℕ, Bool, false, ◌&&◌, List, [], ◌∷◌, find, filter, map, Option, Some, None, Result}
use Rattle.std.specs.List.{flat_map}
use Rattle.std.specs.Option.{option_map, option_map_or, option_or}
use Rattle.std.specs.Str.{bytes_eq}
use Rattle.overlay_map.specs.Names.{type_name_in, key_name_in}
use Rattle.overlay_map.specs.Table.{TableOf, rows_of}
use Rattle.overlay_map.specs.res_value.ResId.{package_of}
use Rattle.overlay_map.specs.res_value.declared.res_id.ResId.{ResId}
use Rattle.overlay_map.specs.type_chunks.Row.{RowOf}
use Rattle.string_pool.specs.string_bytes.declared.fault.StringFault.{StringFault}
use Rattle.string_pool.specs.Text.{TextOf}
use Rattle.names.specs.NameText.{name_text}
use Rattle.names.specs.declared.name.Name.{Name}
use Rattle.names.specs.declared.wanted.Wanted.{Wanted}
use Rattle.names.specs.PackageWord.{PackageWordOf, package_word_of}
use Rattle.names.specs.Packages.{PackageNameOf, is_asked_in}

-- A name, by its content, not its address.
pub record NameOf : Type 0 where
  -- the name of its type
  pub type_name : List ℕ
  -- the name of its entry
  pub entry_name : List ℕ

abbrev pub name_of : Name → NameOf
name_of name = record { type_name = name.type_name.now; entry_name = name.entry_name.now }

-- A name that is looked up, in all packages where none is named.
pub record WantedOf : Type 0 where
  pub in_package : Option PackageWordOf
  pub name : NameOf

abbrev pub wanted_of : Wanted → WantedOf
wanted_of wanted = record { in_package = option_map package_word_of wanted.package; name = name_of wanted.name }

abbrev pub in_any_package : Name → Wanted
in_any_package name = record { «package» = None; name = name }

abbrev pub wanted_name : Option PackageWordOf → List ℕ → List ℕ → WantedOf
wanted_name in_package type_name entry_name = record { in_package = in_package; name = record { type_name = type_name; entry_name = entry_name } }

abbrev pub wanted_in_package : WantedOf → PackageWordOf → WantedOf
wanted_in_package wanted word = record { in_package = Some word; name = wanted.name }

-- a name that can be read and is this text
abbrev pub is_name : Result TextOf StringFault → List ℕ → Bool
is_name name text = option_map_or (λ own. bytes_eq own text) (name_text name) false

-- a row whose type and entry have these names
abbrev pub has_names : TableOf → List ℕ → List ℕ → RowOf → Bool
has_names table type_name key_name row = is_name (type_name_in table row) type_name && is_name (key_name_in table row) key_name

-- the id of the first row of two names
abbrev pub found_in : TableOf → List ℕ → List ℕ → Option ℕ
found_in table type_name key_name = option_map (λ row. row.id) (find (has_names table type_name key_name) (rows_of table))

-- the resource of a name: that of the first row which has it, in the first of the tables that has one
abbrev pub found_in_tables : List TableOf → NameOf → Option ℕ
found_in_tables [] name = None
found_in_tables (table ∷ tables) name = option_or (found_in table name.type_name name.entry_name) (found_in_tables tables name)

-- ---- the ids of a name

abbrev pub id_of_row : RowOf → ResId
id_of_row row = record { 0 = row.id }

-- a row of a package that is asked for, whose type and entry have the names
abbrev pub is_wanted : List PackageNameOf → WantedOf → TableOf → RowOf → Bool
is_wanted packages wanted table row =
    is_asked_in packages wanted.in_package (package_of (id_of_row row)) && has_names table wanted.name.type_name wanted.name.entry_name row

abbrev pub ids_in : List PackageNameOf → WantedOf → TableOf → List ResId
ids_in packages wanted table = map id_of_row (filter (is_wanted packages wanted table) (rows_of table))

-- the ids of the rows of some tables that have a name, in their order
unfoldable pub ids_with : List PackageNameOf → List TableOf → WantedOf → List ResId
ids_with packages tables wanted = flat_map (ids_in packages wanted) tables
