use Rattle.std.proofs.Common.{length, ap, arith}
use Rattle.std.specs.List.{enumerate_from}
use Rattle.contract_words.proofs.TextSteps.{PutsAllBut-next}
use Rattle.res_value.proofs.MapRowsSteps.{length-map_rows_at}
use Rattle.resource_text.proofs.table_row.write_each_map_row.Goals as goal

pub overflow_add-place : goal.overflow_add-place
overflow_add-place g c = omega (arith, length-map_rows_at c.args.rows.count c.args.rows.left.now, c.loop-name.invariant.count)

pub loop-name-preserved : goal.loop-name-preserved
loop-name-preserved g c = record {
  can = tt;
  ends = tt;
  texts = PutsAllBut-next _ _ _ _ _ _ _ _ c.loop-name.invariant.texts (ap (enumerate_from c.loop-name.place) c.in-Some.ensures.steps) c.in_ok-write_map_row.ensures;
  count = omega (arith, c.loop-name.invariant.count, ap length c.in-Some.ensures.steps);
}
