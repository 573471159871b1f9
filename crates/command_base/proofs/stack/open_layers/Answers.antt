use Rattle.std.proofs.Common.{arith}
use Rattle.std.proofs.lemmas.Result.{err_from_is_err_and}
use Rattle.command_base.proofs.StackSteps.{OpensAllBut-next, OpensAllBut-stops}
use Rattle.command_base.proofs.stack.open_layers.Goals as goal

pub loop-layer-preserved : goal.loop-layer-preserved
loop-layer-preserved c = OpensAllBut-next _ _ _ _ _ c.loop-layer.invariant (omega arith) c.in_ok-push_layer.ensures.0

pub returns-in_err-push_layer : goal.returns-in_err-push_layer
returns-in_err-push_layer c =
    let p = err_from_is_err_and c.from_residual.result c.from_residual.ensures.1 in
    rw (p.1, p.2) (λ other. OpensAllBut-stops _ _ _ _ _ c.loop-layer.invariant (omega arith) (c.in_err-push_layer.ensures.0 other), c.in_err-push_layer.ensures.1)
