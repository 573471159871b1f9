use Rattle.std.proofs.Common.{◌≡◌, ◌+◌, ◌^◌, ◌<◌, ◌≤◌, length}
use Rattle.contract_words.proofs.TextSteps.{PutsAllBut}
use Rattle.bags_themes.specs.overlay_map.Table.{rows_of}
use Rattle.bags_themes.specs.type_chunks.Row.{set_aside_count}
use Rattle.answer_text.specs.RowsText.{row_text}
use Rattle.answer_text.proofs.rows.rows_text.Given as goal

abbrev pub invariant-loop-row : goal.invariant-loop-row
invariant-loop-row g l = record {
  can : (goal.iterator-loop-row g).can_next l.row-iterator;
  ends : (goal.iterator-loop-row g).is_finite l.row-iterator;
  texts : PutsAllBut row_text (g.W.Write.contents l.fn.out) (g.W.Write.contents l.out) (rows_of l.table) l.row-iterator;
  counted : l.count + length l.row-iterator ≡ length (rows_of l.table);
  of_them : l.set_aside + set_aside_count l.row-iterator ≡ set_aside_count (rows_of l.table);
  small : l.count + length l.row-iterator < 2 ^ 126;
  fewer : l.set_aside ≤ l.count;
}
