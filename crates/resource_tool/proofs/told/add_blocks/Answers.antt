use Rattle.std.proofs.Common.{map}
use Rattle.resource_text.specs.ChangeBlock.{change_block}
use Rattle.stack_diff.specs.DifferenceSeen.{difference_of}
use Rattle.resource_tool.proofs.Mapped.{one-more}
use Rattle.resource_tool.proofs.told.add_blocks.Goals as goal

pub loop-part-preserved : goal.loop-part-preserved
loop-part-preserved c =
    let of = change_block c.args.form c.args.packages.now (difference_of c.args.change.now.difference.value) c.args.whole.now in
    let base = map (λ block. block.items) c.args.blocks.now.items in
    let block = rw c.deref.ensures at c.in_ok-block.ensures in
    one-more (λ block. block.items) of base c.loop-part.blocks.items c.push.new.self.items c.deref-part-items.result.now c.loop-part.part-index c.in_ok-block.block c.part-item.result
    c.loop-part-test.true c.part-item.is c.loop-part.invariant c.in_ok-push.ensures.items block
