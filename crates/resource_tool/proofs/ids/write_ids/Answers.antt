use Rattle.std.proofs.Common.{arith}
use Rattle.command_base.proofs.answer_text_proofs.ItemSteps.{item-next}
use Rattle.resource_tool.proofs.ids.write_ids.Goals as goal

pub loop-id-preserved : goal.loop-id-preserved
loop-id-preserved g c = item-next _ _ _ _ _ _ _ c.loop-id.invariant (omega arith) c.in_ok-write_id_line.ensures
