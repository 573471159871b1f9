use Rattle.std.proofs.KnownBytes.{Appends-trans}
use Rattle.std.proofs.lemmas.Result.{on_ok_weaker}
use Rattle.resource_text.specs.TableNotation.{row_notation}
use Rattle.resource_text.proofs.rows.write_row.Goals as goal

pub returns : goal.returns
unfolding row_notation
returns g c =
    let to_id = Appends-trans _ _ _ _ _ c.in_ok-write_all.ensures.bytes c.in_ok-write_id.ensures.text in
    let to_space = Appends-trans _ _ _ _ _ to_id c.in_ok-write_all-2.ensures.bytes in
    on_ok_weaker c.write_row_end.result (λ last. Appends-trans _ _ _ _ _ to_space last) c.write_row_end.ensures
