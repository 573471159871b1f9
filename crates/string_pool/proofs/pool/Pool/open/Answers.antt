use Rattle.std.proofs.Common.{arith}
use Rattle.string_pool.proofs.pool.Pool.open.Goals as goal

pub invariant_of-result : goal.invariant_of-result
invariant_of-result c = omega arith
