use Rattle.std.proofs.Common.{◌++◌, List, Bor, map, ap, ◌∙◌}
use Rattle.overlay_map.specs.Package.{PackageOf}
use Rattle.overlay_map.specs.Table.{TableOf}
use Rattle.std.proofs.lemmas.List.{take_all}
use Rattle.names.specs.Packages.{name_of_package, package_name_of, packages_in}
use Rattle.names.proofs.PackageSteps.{packages-more, packages-none}
use Rattle.names.proofs.packages.push_packages_in.Goals as goal

pub loop-table-init : goal.loop-table-init
loop-table-init c = packages-none (map package_name_of c.args.all.now.items)

pub loop-table-preserved : goal.loop-table-preserved
loop-table-preserved c =
    let so_far = map package_name_of c.loop-table.all.items in
    packages-more _ _ _ c.args.tables.now c.loop-table.table-index c.table-item.result c.loop-table.invariant c.loop-table-test.true
    (c.in_ok-push_packages.ensures
    ∙ ap (λ (packages : List PackageOf). so_far ++ map name_of_package packages) (c.packages.ensures.packages ∙ ap (λ (table : Bor TableOf). table.now.packages) c.table-item.is))

pub returns : goal.returns
returns c =
    c.loop-table.invariant
    ∙ ap (λ (tables : List (Bor TableOf)). map package_name_of c.args.all.now.items ++ packages_in (map (λ (table : Bor TableOf). table.now) tables)) (take_all c.loop-table.table-index c.args.tables.now c.loop-table-test.false)
