use Rattle.std.proofs.KnownBytes.{Appends-trans}
use Rattle.std.proofs.lemmas.Result.{on_ok_weaker}
use Rattle.resource_text.specs.TableNotation.{package_notation}
use Rattle.resource_text.proofs.dump.write_package.Goals as goal

pub returns : goal.returns
unfolding package_notation
returns g c =
    let rows = rw c.rows.ensures at c.write_package_rows.ensures in
    on_ok_weaker c.write_package_rows.result (λ last. Appends-trans _ _ _ _ _ c.in_ok-write_package_line.ensures last) rows
