use Rattle.bag_rows.proofs.MergeSteps.{merged_over}
use Rattle.bag_rows.proofs.merging.merge_row.Goals as goal

pub returns-in-Equal : goal.returns-in-Equal
returns-in-Equal c = λ others.
    merged_over c.args.rows.now.items c.smaller.rows.items _ c.args.inherited.now c.smaller.left.now c.in-Some.first.now c.args.own c.in-Some.others.now others
    (c.smaller.invariant others) c.in-Some.ensures.cases.0 c.in-Equal.ensures c.in_ok-push-in-Equal.ensures.items
