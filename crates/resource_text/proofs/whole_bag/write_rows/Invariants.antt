use Rattle.std.proofs.Common.{drop}
use Rattle.std.specs.List.{enumerate_from}
use Rattle.contract_words.proofs.TextSteps.{PutsAllBut}
use Rattle.resource_text.specs.BagNotation.{row_told}
use Rattle.resource_text.proofs.whole_bag.write_rows.Given as goal

-- the lines of all rows were written but of those from the place on
abbrev pub invariant-loop-place : goal.invariant-loop-place
invariant-loop-place g l =
    PutsAllBut (row_told l.naming l.keys) (g.W.Write.contents l.fn.out) (g.W.Write.contents l.out) (enumerate_from 0 l.rows) (enumerate_from l.place (drop l.place l.rows))
