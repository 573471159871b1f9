use Rattle.std.proofs.Common.{drop, map}
use Rattle.contract_words.proofs.TextSteps.{PutsAllBut}
use Rattle.resource_tool.specs.JsonLines.{said_line}
use Rattle.resource_tool.proofs.json_lines.write_all_said.Given as goal

abbrev pub invariant-loop-block : goal.invariant-loop-block
invariant-loop-block g l =
    PutsAllBut (said_line l.begin l.name) (g.W.Write.contents l.fn.out) (g.W.Write.contents l.out) (map (λ block. block.items) l.blocks) (map (λ block. block.items) (drop l.block-index l.blocks))
