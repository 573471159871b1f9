use Rattle.std.proofs.Common.{drop, map}
use Rattle.contract_words.proofs.TextSteps.{PutsAllBut}
use Rattle.stack_diff.specs.names.Label.{label_of}
use Rattle.resource_tool.specs.DiffLines.{block_lines}
use Rattle.resource_tool.proofs.lines.write_blocks.Given as goal

abbrev pub invariant-loop-block : goal.invariant-loop-block
invariant-loop-block g l =
    PutsAllBut (block_lines l.before l.packages (label_of l.label)) (g.W.Write.contents l.fn.out) (g.W.Write.contents l.out) (map (λ block. block.items) l.blocks) (map (λ block. block.items) (drop l.block-index l.blocks))
