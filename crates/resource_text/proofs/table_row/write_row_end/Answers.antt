use Rattle.std.proofs.KnownBytes.{Appends-trans}
use Rattle.std.proofs.lemmas.Result.{on_ok_weaker}
use Rattle.resource_text.specs.TableNotation.{row_end_notation}
use Rattle.resource_text.proofs.table_row.write_row_end.Goals as goal

pub returns : goal.returns
unfolding row_end_notation
returns g c =
    let to_space = Appends-trans _ _ _ _ _ c.in_ok-write_config.ensures.text c.in_ok-write_all.ensures.bytes in
    let to_cell = Appends-trans _ _ _ _ _ to_space c.in_ok-write_cell.ensures in
    let to_line = Appends-trans _ _ _ _ _ to_cell c.in_ok-write_all-2.ensures.bytes in
    on_ok_weaker c.write_map_rows.result (λ last. Appends-trans _ _ _ _ _ to_line last) c.write_map_rows.ensures
