use Rattle.std.proofs.Common.{length, ap, arith}
use Rattle.overlay_map.specs.Package.{rows_of_packages}
use Rattle.overlay_map.proofs.RowsSteps.{length-rows_of_packages}
use Rattle.overlay_map.proofs.indexed_table.IndexedTable.new.Goals as goal

pub returns-in-Ok-of_types-clause-few : goal.returns-in-Ok-of_types-clause-few
returns-in-Ok-of_types-clause-few c =
    let same = ap (λ packages. length (rows_of_packages packages)) c.packages.ensures.packages in
    omega (arith, same, length-rows_of_packages c.packages.result.now, c.packages.ensures.few)
