use Rattle.contract_words.proofs.TextSteps.{PutsAllBut}
use Rattle.resource_tool.specs.JsonLines.{lines_of_pair}
use Rattle.resource_tool.proofs.PairSteps.{both_from, both_lists}
use Rattle.resource_tool.proofs.json_lines.write_names.Given as goal

abbrev pub invariant-loop-place : goal.invariant-loop-place
invariant-loop-place g l =
    PutsAllBut (lines_of_pair l.begin) (g.W.Write.contents l.fn.out) (g.W.Write.contents l.out) (both_lists (λ name. name.items) l.names l.told) (both_from (λ name. name.items) l.names l.told l.place)
