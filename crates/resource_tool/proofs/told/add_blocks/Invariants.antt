use Rattle.std.proofs.Common.{◌≡◌, ◌++◌, map, take}
use Rattle.resource_text.specs.ChangeBlock.{change_block}
use Rattle.stack_diff.specs.DifferenceSeen.{difference_of}
use Rattle.resource_tool.proofs.told.add_blocks.Given as goal

-- those of the boxes so far
abbrev pub invariant-loop-part : goal.invariant-loop-part
invariant-loop-part l =
    map (λ block. block.items) l.blocks.items ≡ map (λ block. block.items) l.fn.blocks.items ++ map (change_block l.form l.packages (difference_of l.change.difference.value) l.whole) (take l.part-index l.part-items)
