use Rattle.stack_diff.proofs.TraceSteps.{trace_tells_content}
use Rattle.stack_diff.proofs.laws.trace_tells_content.Goals as goal

pub returns : goal.returns
returns c = trace_tells_content
