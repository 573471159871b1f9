-- Rows that were noted.
use Rattle.std.proofs.Common.{◌≡◌, ℕ, Bool, true, ◌&&◌, Result, List, [], ◌∷◌, ◌⊎◌, map, refl, sym, ap, ◌∙◌, ⊎_elim}
use Rattle.overlay_map.specs.Names.{type_name_in, key_name_in}
use Rattle.overlay_map.specs.Table.{TableOf}
use Rattle.overlay_map.specs.res_value.ResId.{package_of}
use Rattle.overlay_map.specs.type_chunks.Row.{RowOf}
use Rattle.string_pool.specs.Text.{TextOf}
use Rattle.string_pool.specs.string_bytes.declared.fault.StringFault.{StringFault}
use Rattle.names.specs.declared.found.Found.{Found}
use Rattle.names.specs.declared.passed.Passed.{Passed}
use Rattle.names.specs.declared.sought.Sought.{Sought}
use Rattle.names.specs.FoundSoFar.{also_if}
use Rattle.names.specs.Names.{is_name, id_of_row, wanted_of}
use Rattle.names.specs.Packages.{is_asked_in, package_name_of}
use Rattle.names.specs.Passed.{was_passed, HaveSameNames}
use Rattle.names.specs.Sought.{AreSought, has_name, noted}
use Rattle.names.proofs.FoundLaws.{if-again, if-kept}
use Rattle.names.proofs.NamePlaces.{same_type_name, same_key_name}

has_name-same : (table : TableOf) (row other : RowOf) (one : Sought) → HaveSameNames row other → has_name table one row ≡ has_name table one other
has_name-same table row other one same =
    let wanted = wanted_of one.wanted in
    let packages = map package_name_of one.packages.all.now in
    let has : Result TextOf StringFault → Result TextOf StringFault → ℕ → Bool =
    λ type_name key_name id. is_asked_in packages wanted.in_package (package_of (record { 0 = id })) && (is_name type_name wanted.name.type_name && is_name key_name wanted.name.entry_name) in
    ap (λ (name : Result TextOf StringFault). has name (key_name_in table row) row.id) (same_type_name table row other same)
    ∙ ap (λ (name : Result TextOf StringFault). has (type_name_in table other) name row.id) (same_key_name table row other same)
    ∙ ap (λ (id : ℕ). has (type_name_in table other) (key_name_in table other) id) same.id

-- ---- a row that is noted again, with the same names

noted-same : (table : TableOf) (row other : RowOf) (one : Sought) → HaveSameNames row other → noted table other (noted table row one) ≡ noted table row one
noted-same table row other one same =
    ap (λ (has : Bool). record one { found = also_if (also_if one.found (has_name table one row) (id_of_row row)) has (id_of_row other) }) (sym (has_name-same table row other one same))
    ∙ ap (λ (id : ℕ). record one { found = also_if (also_if one.found (has_name table one row) (id_of_row row)) (has_name table one row) (record { 0 = id }) }) (sym same.id)
    ∙ ap (λ (found : Found). record one { found = found }) (if-again one.found (has_name table one row) (id_of_row row))

map-noted-same : (table : TableOf) (row other : RowOf) (sought : List Sought) → HaveSameNames row other → map (noted table other) (map (noted table row) sought) ≡ map (noted table row) sought
map-noted-same table row other [] same = refl
map-noted-same table row other (one ∷ others) same =
    ap (λ (o : Sought). o ∷ map (noted table other) (map (noted table row) others)) (noted-same table row other one same)
    ∙ ap (λ (os : List Sought). noted table row one ∷ os) (map-noted-same table row other others same)

-- ---- a row that changes nothing, behind another

noted-kept : (table : TableOf) (row other : RowOf) (one : Sought) → noted table other one ≡ one → noted table other (noted table row one) ≡ noted table row one
noted-kept table row other one same =
    ap (λ (found : Found). record one { found = found })
    (if-kept one.found (has_name table one row) (has_name table one other) (id_of_row row) (id_of_row other) (ap (λ (o : Sought). o.found) same))

head_same : (x y : Sought) (xs ys : List Sought) → x ∷ xs ≡ y ∷ ys → x ≡ y
head_same x y xs ys same = cc

tail_same : (x y : Sought) (xs ys : List Sought) → x ∷ xs ≡ y ∷ ys → xs ≡ ys
tail_same x y xs ys same = cc

map-noted-kept : (table : TableOf) (row other : RowOf) (sought : List Sought) → map (noted table other) sought ≡ sought
    → map (noted table other) (map (noted table row) sought) ≡ map (noted table row) sought
map-noted-kept table row other [] same = refl
map-noted-kept table row other (one ∷ others) same =
    ap (λ (o : Sought). o ∷ map (noted table other) (map (noted table row) others)) (noted-kept table row other one (head_same _ _ _ _ same))
    ∙ ap (λ (os : List Sought). noted table row one ∷ os) (map-noted-kept table row other others (tail_same _ _ _ _ same))

-- ---- one row more

pub AreSought-next : (table : TableOf) (row : RowOf) (old new : Passed) (sought : List Sought) → AreSought table old sought
    → ((other : RowOf) → was_passed new other ≡ true → HaveSameNames row other ⊎ (was_passed old other ≡ true))
    → AreSought table new (map (noted table row) sought)
AreSought-next table row old new sought before put = λ other passed.
    ⊎_elim (λ same. map-noted-same table row other sought same) (λ was. map-noted-kept table row other sought (before other was)) (put other passed)

-- a row that was noted and not passed
pub AreSought-kept : (table : TableOf) (row : RowOf) (passed : Passed) (sought : List Sought) → AreSought table passed sought → AreSought table passed (map (noted table row) sought)
AreSought-kept table row passed sought before = λ other was. map-noted-kept table row other sought (before other was)
