use Rattle.std.proofs.Common.{◌≡◌, ◌+◌, ◌*◌, ◌^◌, drop, fold}
use Rattle.std.specs.List.{zip}
use Rattle.contract_words.proofs.TextSteps.{PutsAllBut}
use Rattle.answer_text.specs.overlay_map.Table.{rows_of}
use Rattle.resource_tool.specs.UnusedOutput.{use_lines, with_row}
use Rattle.resource_tool.specs.UnusedTotals.{IsWithin}
use Rattle.resource_tool.proofs.unused_rows.write_rows.Given as goal

-- of the rows but those that are left the lines were written, and they were counted
abbrev pub invariant-loop-row_use : goal.invariant-loop-row_use
invariant-loop-row_use g l = record {
  can : (goal.iterator-loop-row_use g).can_next l.rows;
  ends : (goal.iterator-loop-row_use g).is_finite l.rows;
  texts : PutsAllBut (use_lines l.naming l.told) (g.W.Write.contents l.fn.out) (g.W.Write.contents l.out)
      (zip (rows_of l.table) l.uses) (zip l.rows (drop l.row_use-index l.uses));
  counted : fold with_row l.totals (zip l.rows (drop l.row_use-index l.uses)) ≡ fold with_row l.fn.totals (zip (rows_of l.table) l.uses);
  within : IsWithin (l.told.place * 2 ^ 64 + l.row_use-index) l.totals;
}
