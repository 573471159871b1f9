-- The rows of packages, one after the other.
use Rattle.std.proofs.Common.{◌≡◌, ◌+◌, ◌*◌, ◌≤◌, ◌^◌, List, [], ◌∷◌, ◌++◌, length, length-append, refl, ap, ◌∙◌, arith}
use Rattle.overlay_map.specs.declared.package.Package.{Package}
use Rattle.type_chunks.specs.Row.{RowOf}
use Rattle.type_chunks.specs.PackageChildren.{rows_of_kept}
use Rattle.overlay_map.specs.Package.{PackageOf, package_of, packages_of, rows_of_packages}
use Rattle.type_chunks.proofs.PlacesSteps.{length-rows_of_kept}

-- rows of a package, and those of the packages behind it
pub rows_of_packages-next : (first : PackageOf) (others : List PackageOf) → rows_of_packages (first ∷ others) ≡ first.rows ++ rows_of_packages others
unfolding rows_of_packages
rows_of_packages-next first others = refl

pub rows_of_packages-none : rows_of_packages [] ≡ []
unfolding rows_of_packages
rows_of_packages-none = refl

-- nothing is left where no row and no package is
pub none-left : (rows : List RowOf) (packages : List Package) → rows ≡ [] → length packages ≡ 0 → rows ++ rows_of_packages (packages_of packages) ≡ []
none-left rows [] no_rows no_packages = rw no_rows rows_of_packages-none
none-left rows (first ∷ others) no_rows no_packages = absurd (omega (arith, no_packages))

-- no package has more rows than fit in memory
pub length-rows_of_packages : (packages : List Package) → length (rows_of_packages (packages_of packages)) ≤ length packages * 2 ^ 63
length-rows_of_packages [] = rw rows_of_packages-none (omega arith)
length-rows_of_packages (first ∷ others) =
    let split : length (rows_of_packages (packages_of (first ∷ others))) ≡ length (rows_of_kept first.types) + length (rows_of_packages (packages_of others)) =
    ap (λ (t : List RowOf). length t) (rows_of_packages-next (package_of first) (packages_of others)) ∙ length-append (rows_of_kept first.types) (rows_of_packages (packages_of others)) in
    omega (arith, split, length-rows_of_kept first.types, length-rows_of_packages others)

pub ruleset rows_steps = (rows_of_packages-next, rows_of_packages-none, none-left, length-rows_of_packages)
