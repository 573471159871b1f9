use Rattle.std.proofs.Common.{map, ap, ◌∙◌}
use Rattle.std.proofs.lemmas.List.{get_or_default, take_all}
use Rattle.serde_json.specs.View.{view}
use Rattle.res_value.specs.declared.res_id.ResId.{ResId}
use Rattle.resource_text.specs.EndJson.{resource_data}
use Rattle.resource_text.proofs.Mapped.{one-more}
use Rattle.resource_text.proofs.verdict_json.resources_json.Goals as goal

pub loop-id-preserved : goal.loop-id-preserved
loop-id-preserved c =
    one-more view (λ (id : ResId). resource_data c.args.naming.now id.0) c.args.ids.now c.loop-id.id-index _ c.loop-id.values.items _ c.in_ok-value.value c.loop-id-test.true
    (get_or_default c.args.ids.now c.loop-id.id-index _ _ c.loop-id-test.true) c.loop-id.invariant c.in_ok-push.ensures.items c.in_ok-value.ensures

pub returns : goal.returns
returns c = c.loop-id.invariant ∙ ap (map (λ (id : ResId). resource_data c.args.naming.now id.0)) (take_all c.loop-id.id-index c.args.ids.now c.loop-id-test.false)
