use Rattle.std.proofs.lemmas.List.{drop_more}
use Rattle.stack_diff.proofs.LayerSteps.{put-next}
use Rattle.stack_diff.proofs.looked_up.put_each.Goals as goal

pub loop-id-preserved : goal.loop-id-preserved
loop-id-preserved c = λ id has.
    put-next c.loop-id.numbers c.insert.new.self _ _ _ (drop_more c.args.ids.now c.loop-id.id-index _ c.loop-id-test.true) c.in_ok-insert.ensures.updates.0 id (c.loop-id.invariant id has)
