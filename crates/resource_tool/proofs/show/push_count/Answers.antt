use Rattle.resource_tool.specs.TreeText.{goals_line}
use Rattle.resource_tool.proofs.show.push_count.Goals as goal

pub returns-in-Ok : goal.returns-in-Ok
unfolding goals_line
returns-in-Ok c = c.in-Ok.ensures.bytes
