use Rattle.std.proofs.Common.{sym, ◌∙◌}
use Rattle.std.proofs.lemmas.List.Sums.{fold_more}
use Rattle.resource_text.specs.DevicesJson.{with_narrower}
use Rattle.resource_text.proofs.devices_json.put_narrower.Goals as goal

pub loop-coord-preserved : goal.loop-coord-preserved
loop-coord-preserved c =
    let put = rw c.loop-coord.invariant at c.in_ok-put_if_narrower.ensures in
    put ∙ sym (fold_more (with_narrower c.args.whole.now c.args.part.now) _ c.args.coords.now c.loop-coord.coord-index _ c.loop-coord-test.true)
