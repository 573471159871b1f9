use Rattle.std.proofs.Common.{List, ℕ, subst}
use Rattle.overlay_map.specs.Table.{rows_of}
use Rattle.names.specs.Noted.{Notes}
use Rattle.names.specs.StackLabels.{named_rows}
use Rattle.names.proofs.NotesSteps.{NotesAllBut-next, NotesAllBut-end, ids_of_rows}
use Rattle.names.proofs.stack_labels.note_rows.Goals as goal

pub loop-row-preserved : goal.loop-row-preserved
loop-row-preserved c = record {
  noted = NotesAllBut-next _ _ _ _ _ _ _ _ _ c.loop-row.invariant.noted c.in-Some.ensures.steps c.in_ok-pass_row.ensures.0;
  passed = c.in_ok-pass_row.ensures.1;
}

pub returns : goal.returns
returns c =
    subst (λ (numbers : List ℕ). Notes numbers (named_rows c.args.table.now) c.args.noted.now c.loop-row.noted) (ids_of_rows c.args.table.now (rows_of c.args.table.now))
    (NotesAllBut-end _ _ _ _ _ _ c.loop-row.invariant.noted c.in-None.ensures.steps.0)
