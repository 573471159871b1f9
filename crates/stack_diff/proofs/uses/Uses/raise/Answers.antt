use Rattle.stack_diff.specs.Raising.{level_of, cells_of}
use Rattle.stack_diff.proofs.CellSteps.{raises-one}
use Rattle.stack_diff.proofs.uses.Uses.raise.Goals as goal

pub returns : goal.returns
returns c =
    raises-one (cells_of c.args.self.now) (cells_of c.lift.new.self) c.args.row.now (level_of c.args.to) c.lift.ensures.here c.lift.ensures.others c.lift.ensures.nowhere
    c.lift.ensures.alongside
