use Rattle.contract_words.proofs.TextSteps.{PutsAllBut}
use Rattle.bags_themes.specs.res_value.MapRows.{map_rows_of}
use Rattle.answer_text.specs.CellText.{format_of, map_row_text}
use Rattle.answer_text.proofs.cell.write_each_map_row.Given as goal

-- a line was written for each row but those that are left
abbrev pub invariant-loop-name : goal.invariant-loop-name
invariant-loop-name g l = record {
  can : (goal.iterator-loop-name g).can_next l.name-iterator;
  ends : (goal.iterator-loop-name g).is_finite l.name-iterator;
  texts : PutsAllBut (map_row_text (format_of l.format)) (g.W.Write.contents l.fn.out) (g.W.Write.contents l.out) (map_rows_of l.fn.rows) (map_rows_of l.name-iterator);
}
