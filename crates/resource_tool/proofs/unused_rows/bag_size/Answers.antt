use Rattle.std.proofs.Common.{arith}
use Rattle.res_value.proofs.MapRowsSteps.{length-map_rows_at}
use Rattle.resource_tool.proofs.unused_rows.bag_size.Goals as goal

pub returns-clause-few : goal.returns-clause-few
returns-clause-few c = omega (arith, c.len.ensures, length-map_rows_at c.args.rows.count c.args.rows.left.now)
