use Rattle.std.proofs.Common.{refl}
use Rattle.resource_tool.specs.Opened.{opened_in}
use Rattle.resource_tool.proofs.opened.Opened.read.Goals as goal

pub returns-clause-value : goal.returns-clause-value
unfolding opened_in
returns-clause-value c = rw (c.in_ok-stack.ensures.value, c.in_ok-device.ensures) refl
