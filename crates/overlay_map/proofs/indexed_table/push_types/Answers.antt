use Rattle.std.proofs.Common.{◌++◌, List, ap}
use Rattle.type_chunks.specs.Row.{RowOf}
use Rattle.type_chunks.specs.TypeRows.{rows_of_types}
use Rattle.overlay_map.proofs.PlaceSteps.{rows-moved}
use Rattle.overlay_map.proofs.indexed_table.push_types.Goals as goal

pub loop-checked-init : goal.loop-checked-init
loop-checked-init c = record {
  can = tt;
  ends = tt;
  rows = rw c.into_iter-checked-iterator.ensures.into_iter_gives (ap (λ (rows : List RowOf). rows_of_types c.args.types.now.items ++ rows) c.types-checked-items.ensures);
}

pub loop-checked-preserved : goal.loop-checked-preserved
loop-checked-preserved c = record {
  can = tt;
  ends = tt;
  rows = rw c.in_ok-push.ensures.items (rows-moved _ _ _ _ _ c.in-Some.ensures.steps c.loop-checked.invariant.rows);
}
