use Rattle.std.proofs.Common.{arith}
use Rattle.resource_tool.proofs.QuerySteps.{any-found, any-next}
use Rattle.resource_tool.proofs.query.has_unresolved.Goals as goal

pub loop-id-preserved : goal.loop-id-preserved
loop-id-preserved c = any-next _ _ _ _ _ _ _ c.loop-id.invariant (omega arith) c.resolve.ensures.value c.is_unresolved.ensures c.if-is_unresolved.false

pub returns-then-is_unresolved : goal.returns-then-is_unresolved
returns-then-is_unresolved c = any-found _ _ _ _ _ _ _ c.loop-id.invariant (omega arith) c.resolve.ensures.value c.is_unresolved.ensures c.if-is_unresolved.true
