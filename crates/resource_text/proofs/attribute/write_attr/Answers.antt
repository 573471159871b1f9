use Rattle.std.proofs.KnownBytes.{Appends-trans}
use Rattle.std.proofs.lemmas.Result.{on_ok_weaker}
use Rattle.resource_text.specs.AttrNotation.{attr_notation}
use Rattle.resource_text.proofs.attribute.write_attr.Goals as goal

pub returns : goal.returns
unfolding attr_notation
returns g c =
    let steps = rw (c.deref.ensures.value, c.in_ok-steps.ensures, c.stack.ensures) at c.in_ok-lines.ensures in
    let lines = rw (c.deref-2.ensures.value, steps) at c.in_ok-write_columns.ensures in
    let to_id = Appends-trans _ _ _ _ _ c.in_ok-write_id.ensures c.in_ok-write_all.ensures.bytes in
    let to_lines = Appends-trans _ _ _ _ _ to_id lines in
    let to_slot = Appends-trans _ _ _ _ _ to_lines c.in_ok-write_slot.ensures in
    on_ok_weaker c.write_all-2.result (λ last. Appends-trans _ _ _ _ _ to_slot last) c.write_all-2.ensures.bytes
