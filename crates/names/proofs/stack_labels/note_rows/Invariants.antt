use Rattle.std.proofs.Common.{[], ◌∷◌}
use Rattle.overlay_map.specs.Table.{rows_of}
use Rattle.names.specs.Noted.{AreNoted}
use Rattle.names.specs.StackLabels.{name_of_row, named}
use Rattle.names.proofs.NotesSteps.{NotesAllBut}
use Rattle.names.proofs.stack_labels.note_rows.Given as goal

abbrev pub invariant-loop-row : goal.invariant-loop-row
invariant-loop-row l = record {
  noted : NotesAllBut (λ row. row.id ∷ []) (λ row. named row (name_of_row l.table row)) l.fn.noted l.noted (rows_of l.table) l.row-iterator;
  passed : AreNoted l.table l.passed l.noted;
}
