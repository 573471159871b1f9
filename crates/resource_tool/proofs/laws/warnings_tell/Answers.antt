use Rattle.resource_tool.proofs.WarningSteps.{warnings_tell}
use Rattle.resource_tool.proofs.laws.warnings_tell.Goals as goal

pub returns : goal.returns
returns c = warnings_tell
