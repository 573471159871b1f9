use Rattle.std.proofs.Common.{◌≡◌, ◌+◌, length}
use Rattle.std.specs.List.{enumerate_from}
use Rattle.contract_words.proofs.TextSteps.{PutsAllBut}
use Rattle.res_value.specs.MapRows.{map_rows_of}
use Rattle.resource_text.specs.TableNotation.{map_row_notation}
use Rattle.resource_text.proofs.table_row.write_each_map_row.Given as goal

-- a line was written for each row but those that are left, from the place on
abbrev pub invariant-loop-name : goal.invariant-loop-name
invariant-loop-name g l = record {
  can : (goal.iterator-loop-name g).can_next l.name-iterator;
  ends : (goal.iterator-loop-name g).is_finite l.name-iterator;
  texts : PutsAllBut (map_row_notation l.naming l.indent l.keys) (g.W.Write.contents l.fn.out) (g.W.Write.contents l.out)
      (enumerate_from 0 (map_rows_of l.fn.rows)) (enumerate_from l.place (map_rows_of l.name-iterator));
  count : l.place + length (map_rows_of l.name-iterator) ≡ length (map_rows_of l.fn.rows);
}
