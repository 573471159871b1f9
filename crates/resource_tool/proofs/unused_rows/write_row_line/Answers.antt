use Rattle.std.proofs.Common.{append_assoc}
use Rattle.std.proofs.KnownBytes.{Appends-trans}
use Rattle.std.proofs.lemmas.Result.{on_ok_weaker}
use Rattle.resource_tool.specs.UnusedOutput.{row_line}
use Rattle.resource_tool.proofs.unused_rows.write_row_line.Goals as goal

pub returns : goal.returns
unfolding row_line
returns g c =
    let word = rw c.as_bytes.ensures.value at c.in_ok-write_all.ensures.bytes in
    let to_space = Appends-trans _ _ _ _ _ word c.in_ok-write_all-2.ensures.bytes in
    let to_layer = Appends-trans _ _ _ _ _ to_space c.in_ok-write_layer.ensures in
    let to_name = Appends-trans _ _ _ _ _ to_layer c.in_ok-write_all-3.ensures.bytes in
    let to_id = Appends-trans _ _ _ _ _ to_name c.in_ok-write_id.ensures in
    let to_row = Appends-trans _ _ _ _ _ to_id c.in_ok-write_all-4.ensures.bytes in
    on_ok_weaker c.write_row_end.result (λ last. Appends-trans _ _ _ _ _ to_row last) c.write_row_end.ensures
