use Rattle.std.proofs.Common.{drop, map}
use Rattle.contract_words.proofs.TextSteps.{PutsAllBut}
use Rattle.stack_diff.specs.DifferenceSeen.{row_difference_of}
use Rattle.resource_text.specs.DifferenceText.{row_line}
use Rattle.resource_text.proofs.difference_text.write_rows.Given as goal

abbrev pub invariant-loop-row : goal.invariant-loop-row
invariant-loop-row g l =
    PutsAllBut (row_line l.form l.packages) (g.W.Write.contents l.fn.out) (g.W.Write.contents l.out) (map row_difference_of l.rows) (map row_difference_of (drop l.row-index l.rows))
