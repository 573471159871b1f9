use Rattle.std.proofs.KnownBytes.{Appends-trans}
use Rattle.resource_text.specs.BagNotation.{row_told}
use Rattle.resource_text.proofs.Enumerated.{enumerated-next}
use Rattle.resource_text.proofs.whole_bag.write_rows.Goals as goal

pub loop-place-preserved : goal.loop-place-preserved
unfolding row_told
loop-place-preserved g c =
    let to_from = Appends-trans _ _ _ _ _ c.in_ok-write_row.ensures c.in_ok-write_all.ensures.bytes in
    let to_layer = Appends-trans _ _ _ _ _ to_from c.in_ok-write_layer.ensures in
    enumerated-next _ _ _ _ _ _ _ c.loop-place.invariant c.loop-place-test.true (Appends-trans _ _ _ _ _ to_layer c.in_ok-write_all-2.ensures.bytes)
