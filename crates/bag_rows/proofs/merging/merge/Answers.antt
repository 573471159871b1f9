use Rattle.bag_rows.proofs.MergeSteps.{merged_at_end}
use Rattle.bag_rows.proofs.merging.merge.Goals as goal

pub returns : goal.returns
returns c = merged_at_end _ _ _ _ c.args.layer _ c.loop-name.invariant.left c.in-None.ensures.steps.0 c.in_ok-extend_from_slice.ensures.items
