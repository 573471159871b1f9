use Rattle.stack_diff.specs.names.Pairs.{pair_of}
use Rattle.resource_tool.specs.DiffLines.{label_lines, pair_lines}
use Rattle.resource_tool.proofs.PairSteps.{pair-next_at, pairs-end_at, told-end_at}
use Rattle.resource_tool.proofs.lines.write_labels.Goals as goal

pub loop-place-preserved : goal.loop-place-preserved
loop-place-preserved g c =
    let there = c.in-Some.ensures.lookup in
    pair-next_at pair_of (pair_lines _ _) _ _ _ c.args.pairs.now c.args.told.now c.loop-place.place c.index-pairs-place.result c.in-Some.one.now c.loop-place.invariant
    c.loop-place-test.true c.index-pairs-place.is there.3.0 there.1 c.in_ok-write_told.ensures

pub returns-in_default : goal.returns-in_default
unfolding label_lines
returns-in_default g c = told-end_at pair_of (pair_lines _ _) _ _ c.args.pairs.now c.args.told.now c.loop-place.place c.loop-place.invariant c.in_default.ensures.lookup.0

pub returns : goal.returns
unfolding label_lines
returns g c = pairs-end_at pair_of (pair_lines _ _) _ _ c.args.pairs.now c.args.told.now c.loop-place.place c.loop-place.invariant c.loop-place-test.false
