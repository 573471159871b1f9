use Rattle.std.proofs.Common.{List, sym, subst}
use Rattle.std.proofs.lemmas.List.{take_more}
use Rattle.stack_diff.specs.declared.row_place.RowPlace.{RowPlace}
use Rattle.stack_diff.specs.Raising.{cells_of, rows_more, no_more, KeepsReach}
use Rattle.stack_diff.proofs.RaisedRows.{one-row-more}
use Rattle.stack_diff.proofs.uses.Uses.raise_each.Goals as goal

pub loop-row-preserved : goal.loop-row-preserved
loop-row-preserved c =
    subst (λ (rows : List RowPlace). KeepsReach (cells_of c.args.self.now) (rows_more rows) (cells_of c.raise.new.self) no_more) (sym (take_more c.args.rows.now c.loop-row.row-index _ c.loop-row-test.true))
    (one-row-more (cells_of c.args.self.now) (cells_of c.loop-row.self) (cells_of c.raise.new.self) _ _ c.loop-row.invariant c.raise.ensures)
