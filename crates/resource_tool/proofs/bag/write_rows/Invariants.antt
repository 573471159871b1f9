use Rattle.std.proofs.Common.{drop}
use Rattle.contract_words.proofs.TextSteps.{PutsAllBut}
use Rattle.resource_tool.specs.BagOutput.{bag_row_line}
use Rattle.resource_tool.proofs.bag.write_rows.Given as goal

-- the lines of all rows were written but of those that are left
abbrev pub invariant-loop-row : goal.invariant-loop-row
invariant-loop-row g l = PutsAllBut (bag_row_line l.names.stack l.names.asked) (g.W.Write.contents l.fn.out) (g.W.Write.contents l.out) l.rows (drop l.row-index l.rows)
