use Rattle.std.proofs.Common.{refl}
use Rattle.resource_tool.proofs.survey.opened.read_box.Goals as goal

pub returns : goal.returns
returns c = (rw (c.in-Some.is, c.in_ok-members.ensures.value) refl, tt)
