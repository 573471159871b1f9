use Rattle.std.proofs.Common.{refl}
use Rattle.resource_tool.specs.MakeOutput.{make_inputs_by}
use Rattle.resource_tool.proofs.opened_box.OpenedBox.read_by.Goals as goal

pub returns-clause-value : goal.returns-clause-value
unfolding make_inputs_by
returns-clause-value c = rw (c.in_ok-stack.ensures.value, c.in_ok-members.ensures.value) refl
