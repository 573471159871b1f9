use Rattle.contract_words.proofs.TextSteps.{PutsAllBut-next_at}
use Rattle.resource_tool.specs.JsonLines.{said_line}
use Rattle.resource_tool.proofs.json_lines.write_all_said.Goals as goal

pub loop-block-preserved : goal.loop-block-preserved
loop-block-preserved g c =
    PutsAllBut-next_at (λ block. block.items) (said_line c.args.begin.now c.args.name.now) _ _ _ _ c.args.blocks.now c.loop-block.block-index c.block-item.result
    c.loop-block.invariant c.loop-block-test.true c.block-item.is (rw c.deref.ensures.value at c.in_ok-write_said.ensures)
