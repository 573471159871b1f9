use Rattle.std.proofs.Common.{get_or, map, ap, ◌∙◌}
use Rattle.std.proofs.lemmas.List.{get_or_default, take_all}
use Rattle.serde_json.specs.View.{view}
use Rattle.resource_text.specs.TextJson.{number_data}
use Rattle.resource_text.proofs.Mapped.{one-more}
use Rattle.resource_text.proofs.devices_json.numbers_json.Goals as goal

pub loop-number-preserved : goal.loop-number-preserved
loop-number-preserved c =
    one-more view number_data c.args.numbers.now c.loop-number.number-index (get_or c.args.numbers.now c.loop-number.number-index 0) c.loop-number.values.items _ c.from.result c.loop-number-test.true
    (get_or_default c.args.numbers.now c.loop-number.number-index _ _ c.loop-number-test.true) c.loop-number.invariant c.in_ok-push.ensures.items c.from.ensures

pub returns : goal.returns
returns c = c.loop-number.invariant ∙ ap (map number_data) (take_all c.loop-number.number-index c.args.numbers.now c.loop-number-test.false)
