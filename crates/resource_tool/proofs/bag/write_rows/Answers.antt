use Rattle.std.proofs.Common.{arith}
use Rattle.command_base.proofs.answer_text_proofs.ItemSteps.{item-next}
use Rattle.resource_tool.proofs.bag.write_rows.Goals as goal

pub loop-row-preserved : goal.loop-row-preserved
loop-row-preserved g c = item-next _ _ _ _ _ _ _ c.loop-row.invariant (omega arith) c.in_ok-write_row.ensures
