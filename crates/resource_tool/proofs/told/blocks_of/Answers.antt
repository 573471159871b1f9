use Rattle.std.proofs.Common.{map}
use Rattle.stack_diff.specs.Changes.{change_of}
use Rattle.resource_tool.specs.Telling.{change_blocks}
use Rattle.resource_tool.proofs.Mapped.{all-more}
use Rattle.resource_tool.proofs.told.blocks_of.Goals as goal

pub loop-change-preserved : goal.loop-change-preserved
loop-change-preserved c =
    all-more change_of (change_blocks c.args.form c.args.packages.now c.args.whole.now) (map (λ block. block.items) c.loop-change.blocks.items) (map (λ block. block.items) c.add_blocks.new.blocks.items)
    c.args.changes.now c.loop-change.change-index c.change-item.result c.loop-change-test.true c.change-item.is c.loop-change.invariant c.in_ok-add_blocks.ensures
