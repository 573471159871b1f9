use Rattle.contract_words.proofs.TextSteps.{PutsAllBut}
use Rattle.answer_text.specs.DumpText.{row_text}
use Rattle.answer_text.proofs.dump.write_rows.Given as goal

-- the lines of all rows were written but of those that are left
abbrev pub invariant-loop-row : goal.invariant-loop-row
invariant-loop-row g l = record {
  can : (goal.iterator-loop-row g).can_next l.row-iterator;
  ends : (goal.iterator-loop-row g).is_finite l.row-iterator;
  texts : PutsAllBut (row_text l.table) (g.W.Write.contents l.fn.out) (g.W.Write.contents l.out) l.fn.rows l.row-iterator;
}
