use Rattle.config_precedence.proofs.EitherOrder.{either_order}
use Rattle.config_precedence.proofs.precedence.deciding.Goals as goal

pub returns-in_err-place-clause-either_order : goal.returns-in_err-place-clause-either_order
returns-in_err-place-clause-either_order c = either_order _ _ _

pub returns-clause-either_order : goal.returns-clause-either_order
returns-clause-either_order c = either_order _ _ _
