use Rattle.std.proofs.Common.{refl}
use Rattle.resource_tool.specs.ShowOutput.{show_inputs}
use Rattle.resource_tool.proofs.show.OpenedTrees.read.Goals as goal

pub returns-clause-value : goal.returns-clause-value
unfolding show_inputs
returns-clause-value c = rw (c.in_ok-stack.ensures.value, c.in_ok-certificate.ensures) refl
