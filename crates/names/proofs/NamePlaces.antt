-- The names of rows that stand at the same places.
use Rattle.std.proofs.Common.{◌≡◌, ℕ, ◌+◌, ◌-◌, Result, slice_get, nat_lt, refl, sym, ap, ◌∙◌}
use Rattle.contract_words.specs.Faults.{◌>>=◌, refuse}
use Rattle.overlay_map.specs.Names.{type_name_in, key_name_in, found_package}
use Rattle.overlay_map.specs.Table.{TableOf}
use Rattle.overlay_map.specs.type_chunks.Row.{RowOf}
use Rattle.string_pool.specs.Text.{TextOf, text_in}
use Rattle.string_pool.specs.string_bytes.declared.fault.StringFault.{StringFault}
use Rattle.string_pool.specs.string_bytes.declared.fault.StringFault.TheVariants.{NoSuch}
use Rattle.overlay_map.specs.res_value.ResId.{type_of}
use Rattle.names.specs.IdsOfType.{id_of_number}
use Rattle.names.specs.Passed.{HaveSameNames}

pub type_name_at : TableOf → ℕ → ℕ → Result TextOf StringFault
type_name_at table place id = do
  in_package ← found_package (slice_get table.packages place)
  _ ← refuse (nat_lt id (in_package.header.type_id_offset + 1)) NoSuch
  text_in in_package.header.type_names (id - (in_package.header.type_id_offset + 1))

pub type_name-at : (table : TableOf) (row : RowOf) → type_name_in table row ≡ type_name_at table row.in_package (type_of (id_of_number row.id))
unfolding type_name_in type_name_at
type_name-at table row = refl

pub key_name_at : TableOf → ℕ → ℕ → Result TextOf StringFault
key_name_at table place key = do
  in_package ← found_package (slice_get table.packages place)
  text_in in_package.header.key_names key

pub key_name-at : (table : TableOf) (row : RowOf) → key_name_in table row ≡ key_name_at table row.in_package row.key
unfolding key_name_in key_name_at
key_name-at table row = refl

pub same_type_name : (table : TableOf) (row other : RowOf) → HaveSameNames row other → type_name_in table row ≡ type_name_in table other
same_type_name table row other same =
    type_name-at table row
    ∙ ap (λ (place : ℕ). type_name_at table place (type_of (id_of_number row.id))) same.in_package
    ∙ ap (λ (id : ℕ). type_name_at table other.in_package (type_of (id_of_number id))) same.id
    ∙ sym (type_name-at table other)

pub same_key_name : (table : TableOf) (row other : RowOf) → HaveSameNames row other → key_name_in table row ≡ key_name_in table other
same_key_name table row other same =
    key_name-at table row
    ∙ ap (λ (place : ℕ). key_name_at table place row.key) same.in_package
    ∙ ap (λ (key : ℕ). key_name_at table other.in_package key) same.key
    ∙ sym (key_name-at table other)
