use Rattle.std.proofs.Common.{map, drop, None}
use Rattle.overlay_map.specs.Table.{rows_of}
use Rattle.names.specs.IdsOfType.{numbers_of_type}
use Rattle.names.specs.StackLabels.{named_rows}
use Rattle.names.proofs.NotesSteps.{NotesAllBut}
use Rattle.names.proofs.stack_labels.note_tables.Given as goal

abbrev pub invariant-loop-table : goal.invariant-loop-table
invariant-loop-table l =
    NotesAllBut (λ table. numbers_of_type None table (rows_of table)) named_rows l.fn.noted l.noted (map (λ table. table.now) l.tables) (map (λ table. table.now) (drop l.table-index l.tables))
