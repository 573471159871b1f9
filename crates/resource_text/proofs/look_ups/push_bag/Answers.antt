use Rattle.res_value.specs.declared.res_id.ResId.{ResId}
use Rattle.resource_text.proofs.PushedItems.{pushed_more}
use Rattle.resource_text.proofs.look_ups.push_bag.Goals as goal

pub loop-id-preserved : goal.loop-id-preserved
loop-id-preserved c = record {
  can = tt;
  ends = tt;
  all = pushed_more (λ (id : ResId). id.0) _ _ _ _ _ _ c.loop-id.invariant.all c.in-Some.ensures.steps c.in_ok-push.ensures.items;
}
