use Rattle.std.proofs.Common.{arith}
use Rattle.std.proofs.KnownBytes.{Appends-trans}
use Rattle.answer_text.proofs.ItemSteps.{item-next}
use Rattle.resource_text.specs.EndNotation.{end_line}
use Rattle.resource_text.proofs.ends.write_ends.Goals as goal

pub loop-id-preserved : goal.loop-id-preserved
unfolding end_line
loop-id-preserved g c =
    let to_space = Appends-trans _ _ _ _ _ c.in_ok-write_id.ensures c.in_ok-write_all.ensures.bytes in
    let to_end = Appends-trans _ _ _ _ _ to_space c.in_ok-write_end_within.ensures in
    item-next _ _ _ _ _ _ _ c.loop-id.invariant (omega arith) (Appends-trans _ _ _ _ _ to_end c.in_ok-write_all-2.ensures.bytes)
