use Rattle.std.specs.BTreeMap.{values}
use Rattle.std.proofs.lemmas.Iterator.{items_from_collect}
use Rattle.std.proofs.lemmas.Iterator.Consumers.{YieldsList-from_copied, YieldsList-from_rest}
use Rattle.command_base.specs.answer_text.overlay_map.Table.{rows_of}
use Rattle.command_base.proofs.FirstRowSteps.{first_rows-collected}
use Rattle.command_base.proofs.first_rows.FirstRows.in_order.Goals as goal

pub returns : goal.returns
returns c =
    let kept = c.args.self.now.rows in
    first_rows-collected (rows_of c.args.self.now.table.now) kept c.collect.result c.values.ensures.ordered c.args.self.now.ids c.args.self.now.first
    (items_from_collect c.collect.result c.collect.ensures.ran (YieldsList-from_copied (YieldsList-from_rest (values kept) cc)))
