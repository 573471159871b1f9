use Rattle.config_precedence.proofs.EitherOrder.{keeps_out_by_deciding}
use Rattle.config_precedence.proofs.precedence.keeping_out.Goals as goal

pub returns-in_err-place-clause-by_deciding : goal.returns-in_err-place-clause-by_deciding
returns-in_err-place-clause-by_deciding c = keeps_out_by_deciding _ _ _

pub returns-clause-by_deciding : goal.returns-clause-by_deciding
returns-clause-by_deciding c = keeps_out_by_deciding _ _ _
