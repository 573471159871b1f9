use Rattle.command_base.proofs.StackSteps.{OpensAllBut}
use Rattle.command_base.proofs.stack.open_layers.Given as goal

-- the layers so far stand on the stack
abbrev pub invariant-loop-layer : goal.invariant-loop-layer
invariant-loop-layer l = OpensAllBut l.stack l.layer-index l.layers
