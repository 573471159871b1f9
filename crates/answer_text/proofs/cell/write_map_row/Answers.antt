use Rattle.std.proofs.KnownBytes.{Appends-trans}
use Rattle.std.proofs.lemmas.Result.{on_ok_weaker}
use Rattle.answer_text.specs.CellText.{map_row_text}
use Rattle.answer_text.proofs.cell.write_map_row.Goals as goal

pub returns : goal.returns
unfolding map_row_text
returns g c =
    let first = rw c.as_bytes.ensures.value at c.in_ok-write_all.ensures.bytes in
    let to_name = Appends-trans _ _ _ _ _ first c.in_ok-write_id.ensures.text in
    let to_space = Appends-trans _ _ _ _ _ to_name c.in_ok-write_all-2.ensures.bytes in
    let to_value = Appends-trans _ _ _ _ _ to_space c.in_ok-write_value_with_string.ensures in
    on_ok_weaker c.write_all-3.result (λ last. Appends-trans _ _ _ _ _ to_value last) c.write_all-3.ensures.bytes
