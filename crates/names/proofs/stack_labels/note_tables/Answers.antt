use Rattle.names.proofs.NotesSteps.{NotesAllBut-next_at, NotesAllBut-end_at}
use Rattle.names.proofs.stack_labels.note_tables.Goals as goal

pub loop-table-preserved : goal.loop-table-preserved
loop-table-preserved c = NotesAllBut-next_at _ _ _ _ _ _ _ _ _ _ c.loop-table.invariant c.loop-table-test.true c.table-item.is c.in_ok-note_rows.ensures

pub returns : goal.returns
returns c = NotesAllBut-end_at _ _ _ _ _ _ _ _ c.loop-table.invariant c.loop-table-test.false
