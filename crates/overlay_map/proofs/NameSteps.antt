-- The names of a row, of the package that it is of.
use Rattle.std.proofs.Common.{◌≡◌, ℕ, ◌+◌, ◌<◌, ◌≤◌, false, true, List, length, get_or, Some, Err, refl, sym, ap, ◌∙◌, arith}
use Rattle.std.specs.Prelude.{◌-◌, nat_lt, slice_get}
use Rattle.std.proofs.lemmas.Bool.Decides.{nat_tests}
use Rattle.type_chunks.specs.res_value.ResId.{type_of}
use Rattle.type_chunks.specs.string_pool.Text.{text_in}
use Rattle.type_chunks.specs.string_pool.Pool.{pool_of}
use Rattle.type_chunks.specs.string_pool.string_bytes.declared.fault.StringFault.TheVariants.{NoSuch}
use Rattle.type_chunks.specs.Row.{RowOf}
use Rattle.overlay_map.specs.declared.package.Package.{Package}
use Rattle.overlay_map.specs.Package.{package_of, packages_of}
use Rattle.overlay_map.specs.Table.{TableOf}
use Rattle.overlay_map.specs.Names.{type_name_in, key_name_in}
use Rattle.overlay_map.proofs.PackagesSteps.{package_at}

module _ (table : TableOf) (row : RowOf) (packages : List Package) (whole : packages_of packages ≡ table.packages) (found : Package) (within : row.in_package < length packages) (is : found ≡ get_or packages row.in_package found) where
  of_row : slice_get table.packages row.in_package ≡ Some (package_of found)
  of_row = ap (λ ps. slice_get ps row.in_package) (sym whole) ∙ package_at packages row.in_package found within is

  pub key-name : key_name_in table row ≡ text_in (pool_of found.header.key_names) row.key
  unfolding key_name_in
  key-name = rw of_row refl

  pub type-name : (id : ℕ) → id ≡ type_of (record { 0 = row.id }) → found.header.type_id_offset + 1 ≤ id → type_name_in table row ≡ text_in (pool_of found.header.type_names) (id - (found.header.type_id_offset + 1))
  unfolding type_name_in
  type-name id same first =
      let test : nat_lt id (found.header.type_id_offset + 1) ≡ false = grind (arith, nat_tests) in
      rw (of_row, sym same, test) refl

  pub no-type-name : (id : ℕ) → id ≡ type_of (record { 0 = row.id }) → (found.header.type_id_offset + 1 ≤ id → ⊥) → type_name_in table row ≡ Err NoSuch
  unfolding type_name_in
  no-type-name id same first =
      let below : id < found.header.type_id_offset + 1 = omega (arith, first) in
      let test : nat_lt id (found.header.type_id_offset + 1) ≡ true = grind (arith, nat_tests) in
      rw (of_row, sym same, test) refl
