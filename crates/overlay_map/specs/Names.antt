-- The names of rows (AOSP: ResTable::getResourceName).
use Rattle.std.specs.Prelude.{ℕ, ◌+◌, ◌-◌, Bool, false, ◌&&◌, List, find, slice_get, Option, Some, None, Result, Ok, Err, nat_lt}
use Rattle.std.specs.Option.{option_map}
use Rattle.contract_words.specs.Faults.{◌>>=◌, refuse}
use Rattle.type_chunks.specs.res_value.ResId.{type_of}
use Rattle.type_chunks.specs.string_pool.Text.{TextOf, text_in, is_text_of}
use Rattle.type_chunks.specs.string_pool.string_bytes.declared.fault.StringFault.{StringFault}
use Rattle.type_chunks.specs.string_pool.string_bytes.declared.fault.StringFault.TheVariants.{NoSuch}
use Rattle.type_chunks.specs.Row.{RowOf}
use Rattle.overlay_map.specs.Package.{PackageOf}
use Rattle.overlay_map.specs.Table.{TableOf, rows_of}

-- a package that is there
abbrev pub found_package : Option PackageOf → Result PackageOf StringFault
found_package (Some found) = Ok found
found_package None = Err NoSuch

-- the package that a row says it is of
abbrev pub package_of_row : TableOf → RowOf → Result PackageOf StringFault
package_of_row table row = found_package (slice_get table.packages row.in_package)

-- The names of a package's types begin with that of the type whose id is one more than its offset.
unfoldable pub type_name_in : TableOf → RowOf → Result TextOf StringFault
type_name_in table row = do
  in_package ← package_of_row table row
  let id = type_of (record { 0 = row.id })
  _ ← refuse (nat_lt id (in_package.header.type_id_offset + 1)) NoSuch
  text_in in_package.header.type_names (id - (in_package.header.type_id_offset + 1))

unfoldable pub key_name_in : TableOf → RowOf → Result TextOf StringFault
key_name_in table row = do
  in_package ← package_of_row table row
  text_in in_package.header.key_names row.key

-- a name that can be read and is this text
abbrev pub is_name : Result TextOf StringFault → List ℕ → Bool
is_name (Ok name) text = is_text_of name text
is_name (Err fault) text = false

-- a row whose type and entry have these names
abbrev pub has_names : TableOf → List ℕ → List ℕ → RowOf → Bool
has_names table type_name key_name row = is_name (type_name_in table row) type_name && is_name (key_name_in table row) key_name

-- the id of the first row of two names
abbrev pub found_in : TableOf → List ℕ → List ℕ → Option ℕ
found_in table type_name key_name = option_map (λ row. row.id) (find (has_names table type_name key_name) (rows_of table))
