use Rattle.std.proofs.KnownBytes.{Appends-trans}
use Rattle.std.proofs.lemmas.Result.{on_ok_weaker}
use Rattle.resource_text.specs.TableNotation.{map_row_notation}
use Rattle.resource_text.proofs.table_row.write_map_row.Goals as goal

pub returns : goal.returns
unfolding map_row_notation
returns g c =
    let to_row = Appends-trans _ _ _ _ _ c.in_ok-write_all.ensures.bytes c.in_ok-write_row.ensures in
    on_ok_weaker c.write_all-2.result (λ last. Appends-trans _ _ _ _ _ to_row last) c.write_all-2.ensures.bytes
