use Rattle.std.proofs.Common.{refl}
use Rattle.resource_tool.proofs.stack_counts.StackCounts.of.Goals as goal

pub returns : goal.returns
returns c = rw (c.shared_count.ensures, c.rows_set_aside.ensures, c.stack.ensures) refl
