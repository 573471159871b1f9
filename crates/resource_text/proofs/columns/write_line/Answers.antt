use Rattle.std.proofs.KnownBytes.{Appends-trans}
use Rattle.std.proofs.lemmas.Result.{on_ok_weaker}
use Rattle.resource_text.specs.Columns.{line_text}
use Rattle.resource_text.proofs.columns.write_line.Goals as goal

pub returns : goal.returns
unfolding line_text
returns g c =
    let layer = rw c.deref.ensures.value at c.in_ok-write_column.ensures in
    let config = rw c.deref-2.ensures.value at c.in_ok-write_column-2.ensures in
    let value = rw c.deref-3.ensures.value at c.in_ok-write_column-3.ensures in
    let decision = rw c.deref-4.ensures.value at c.in_ok-write_all-2.ensures.bytes in
    let to_layer = Appends-trans _ _ _ _ _ c.in_ok-write_all.ensures.bytes layer in
    let to_config = Appends-trans _ _ _ _ _ to_layer config in
    let to_value = Appends-trans _ _ _ _ _ to_config value in
    let to_decision = Appends-trans _ _ _ _ _ to_value decision in
    on_ok_weaker c.write_all-3.result (λ last. Appends-trans _ _ _ _ _ to_decision last) c.write_all-3.ensures.bytes
