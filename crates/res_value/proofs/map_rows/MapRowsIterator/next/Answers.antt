use Rattle.std.proofs.Common.{arith}
use Rattle.res_value.proofs.map_rows.MapRowsIterator.next.Goals as goal

pub invariant_of-self : goal.invariant_of-self
invariant_of-self c = grind arith
