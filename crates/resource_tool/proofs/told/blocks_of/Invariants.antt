use Rattle.std.proofs.Common.{◌≡◌, map, take}
use Rattle.std.specs.List.{flat_map}
use Rattle.stack_diff.specs.Changes.{change_of}
use Rattle.resource_tool.specs.Telling.{change_blocks}
use Rattle.resource_tool.proofs.told.blocks_of.Given as goal

-- those of the changes so far
abbrev pub invariant-loop-change : goal.invariant-loop-change
invariant-loop-change l = map (λ block. block.items) l.blocks.items ≡ flat_map (change_blocks l.form l.packages l.whole) (map change_of (take l.change-index l.changes))
