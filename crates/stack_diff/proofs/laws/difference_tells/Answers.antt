use Rattle.stack_diff.proofs.DifferenceTells.{difference_tells}
use Rattle.stack_diff.proofs.laws.difference_tells.Goals as goal

pub returns : goal.returns
returns c = difference_tells
