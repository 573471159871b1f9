use Rattle.std.proofs.Common.{refl, sym, ap, ◌∙◌}
use Rattle.overlay_map.specs.Package.{package_of, packages_of, rows_of_packages}
use Rattle.type_chunks.proofs.type_entries.TypeRowsSteps.{rows_of_types-none}
use Rattle.overlay_map.proofs.PackagesSteps.{rows_of_packages-none, rows_of_packages-next, package_at, take-packages}
use Rattle.overlay_map.proofs.indexed_table.types_of.Goals as goal

pub loop-package-init : goal.loop-package-init
loop-package-init c = rw (c.new-types.ensures.items, rows_of_types-none, rows_of_packages-none) refl

pub loop-package-preserved : goal.loop-package-preserved
loop-package-preserved c =
    let packages = packages_of c.args.packages.now in
    let item = c.package-item in
    let found = package_at c.args.packages.now c.loop-package.package-index item.result c.loop-package-test.true item.is in
    rw (c.in_ok-push_types.ensures, c.loop-package.invariant)
    (sym (rows_of_packages-next packages c.loop-package.package-index (package_of item.result) found))

pub returns : goal.returns
returns c = c.loop-package.invariant ∙ ap rows_of_packages (take-packages c.args.packages.now c.loop-package.package-index c.loop-package-test.false)
