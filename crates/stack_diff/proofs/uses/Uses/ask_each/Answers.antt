use Rattle.std.proofs.Common.{List, sym, subst}
use Rattle.std.proofs.lemmas.List.{take_more}
use Rattle.stack_diff.specs.declared.row_place.RowPlace.{RowPlace}
use Rattle.stack_diff.specs.Raising.{AsksFor, cells_of}
use Rattle.stack_diff.proofs.AskSteps.{asks-more}
use Rattle.stack_diff.proofs.uses.Uses.ask_each.Goals as goal

pub loop-row-preserved : goal.loop-row-preserved
loop-row-preserved c =
    subst (λ (rows : List RowPlace). AsksFor rows (cells_of c.args.self.now) (cells_of c.lift.new.self)) (sym (take_more c.args.rows.now c.loop-row.row-index _ c.loop-row-test.true))
    (asks-more (cells_of c.args.self.now) (cells_of c.loop-row.self) (cells_of c.lift.new.self) _ _ c.loop-row.invariant c.lift.ensures.here c.lift.ensures.others c.lift.ensures.nowhere c.lift.ensures.alongside)
