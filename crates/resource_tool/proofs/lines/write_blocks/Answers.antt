use Rattle.contract_words.proofs.TextSteps.{PutsAllBut-next_at}
use Rattle.stack_diff.specs.names.Label.{label_of}
use Rattle.resource_tool.specs.DiffLines.{block_lines}
use Rattle.resource_tool.proofs.lines.write_blocks.Goals as goal

pub loop-block-preserved : goal.loop-block-preserved
loop-block-preserved g c =
    PutsAllBut-next_at (λ block. block.items) (block_lines c.args.before.now c.args.packages.now (label_of c.args.label.now)) _ _ _ _ c.args.blocks.now c.loop-block.block-index c.block-item.result
    c.loop-block.invariant c.loop-block-test.true c.block-item.is (rw c.deref.ensures.value at c.in_ok-write_block.ensures)
