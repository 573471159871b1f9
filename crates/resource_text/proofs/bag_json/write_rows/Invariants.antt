use Rattle.std.proofs.Common.{drop}
use Rattle.std.specs.List.{enumerate_from}
use Rattle.contract_words.proofs.TextSteps.{PutsAllBut}
use Rattle.resource_text.specs.BagJson.{row_json}
use Rattle.resource_text.proofs.bag_json.write_rows.Given as goal

-- the lines of all rows were written but of those from the place on
abbrev pub invariant-loop-place : goal.invariant-loop-place
invariant-loop-place g l =
    PutsAllBut (row_json l.naming l.keys) (g.W.Write.contents l.fn.out) (g.W.Write.contents l.out) (enumerate_from 0 l.rows) (enumerate_from l.place (drop l.place l.rows))
