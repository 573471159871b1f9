use Rattle.command_base.specs.answer_text.overlay_map.Table.{rows_of}
use Rattle.command_base.proofs.FirstRowSteps.{FindsAllBut}
use Rattle.command_base.proofs.first_rows.first_rows.Given as goal

abbrev pub invariant-loop-row : goal.invariant-loop-row
invariant-loop-row l = FindsAllBut (rows_of l.table) l.row-iterator l.rows
