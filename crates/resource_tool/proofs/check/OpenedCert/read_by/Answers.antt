use Rattle.std.proofs.Common.{refl}
use Rattle.resource_tool.specs.CheckOutput.{check_inputs_by}
use Rattle.resource_tool.proofs.check.OpenedCert.read_by.Goals as goal

pub returns-clause-value : goal.returns-clause-value
unfolding check_inputs_by
returns-clause-value c = rw (c.in_ok-stack.ensures.value, c.in_ok-members.ensures.value, c.in_ok-certificate.ensures) refl
