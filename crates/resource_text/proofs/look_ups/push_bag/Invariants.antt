use Rattle.std.proofs.Common.{◌≡◌, ◌++◌, map}
use Rattle.res_value.specs.declared.res_id.ResId.{ResId}
use Rattle.reference_resolver.specs.config_precedence.config_record.DeviceSeen.{device_numbers}
use Rattle.answer_text.specs.bags_themes.BagIds.{bag_ids}
use Rattle.resource_text.proofs.look_ups.push_bag.Given as goal

-- those so far, and those that are left, are all
abbrev pub invariant-loop-id : goal.invariant-loop-id
invariant-loop-id l = record {
  can : (goal.iterator-loop-id).can_next l.id-iterator;
  ends : (goal.iterator-loop-id).is_finite l.id-iterator;
  all : map (λ (id : ResId). id.0) l.ids.items ++ l.id-iterator
      ≡ map (λ (id : ResId). id.0) l.fn.ids.items ++ bag_ids l.fn.stack l.fn.id.0 (device_numbers l.device);
}
