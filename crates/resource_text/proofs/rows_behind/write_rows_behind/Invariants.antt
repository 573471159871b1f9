use Rattle.std.proofs.Common.{drop, map}
use Rattle.contract_words.proofs.TextSteps.{PutsAllBut}
use Rattle.answer_text.specs.ContentSeen.{row_content_of}
use Rattle.resource_text.specs.BagRows.{row_behind}
use Rattle.resource_text.proofs.rows_behind.write_rows_behind.Given as goal

abbrev pub invariant-loop-row : goal.invariant-loop-row
invariant-loop-row g l =
    PutsAllBut (row_behind l.words l.form l.packages) (g.W.Write.contents l.fn.out) (g.W.Write.contents l.out) (map row_content_of l.rows) (map row_content_of (drop l.row-index l.rows))
