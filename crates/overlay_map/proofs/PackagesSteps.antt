-- The rows of the packages so far.
use Rattle.std.proofs.Common.{◌≡◌, ℕ, ◌+◌, ◌<◌, ◌≤◌, List, [], ◌∷◌, ◌++◌, length, take, get_or, slice_get, Some, refl, ap, ◌∙◌, arith}
use Rattle.std.proofs.lemmas.Grind.{flat_map-append}
use Rattle.std.proofs.lemmas.List.{append-nil, length-map, take_all, take_more}
use Rattle.std.proofs.lemmas.Option.{slice_get-map, slice_get_read, slice_get_within, get_or_from_slice_get}
use Rattle.overlay_map.specs.declared.package.Package.{Package}
use Rattle.type_chunks.specs.Row.{RowOf}
use Rattle.overlay_map.specs.Package.{PackageOf, package_of, packages_of, rows_of_packages}

-- no package has no rows
pub rows_of_packages-none : rows_of_packages [] ≡ []
unfolding rows_of_packages
rows_of_packages-none = refl

rows_of_packages-push : (packages : List PackageOf) (read : PackageOf) → rows_of_packages (packages ++ read ∷ []) ≡ rows_of_packages packages ++ read.rows
unfolding rows_of_packages
rows_of_packages-push packages read = flat_map-append (λ (p : PackageOf). p.rows) packages (read ∷ []) ∙ ap (λ (l : List RowOf). rows_of_packages packages ++ l) (append-nil read.rows)

-- the rows of one package more
pub rows_of_packages-next : (packages : List PackageOf) (index : ℕ) (read : PackageOf) → slice_get packages index ≡ Some read
    → rows_of_packages (take (index + 1) packages) ≡ rows_of_packages (take index packages) ++ read.rows
rows_of_packages-next packages index read found =
    let one_more : take (index + 1) packages ≡ take index packages ++ read ∷ [] =
    take_more packages index read (slice_get_within packages index read found) ∙ ap (λ (p : PackageOf). take index packages ++ p ∷ []) (get_or_from_slice_get packages index read read found) in
    ap rows_of_packages one_more ∙ rows_of_packages-push (take index packages) read

-- a package where it stands, without its memory
pub package_at : (packages : List Package) (index : ℕ) (read : Package) → index < length packages → read ≡ get_or packages index read → slice_get (packages_of packages) index ≡ Some (package_of read)
package_at packages index read within is = rw (slice_get-map package_of packages index, slice_get_read packages (length packages) index read refl within is) refl

-- at the end these are all packages
pub take-packages : (packages : List Package) (index : ℕ) → length packages ≤ index → take index (packages_of packages) ≡ packages_of packages
take-packages packages index past = take_all index (packages_of packages) (omega (arith, past, length-map packages package_of))
