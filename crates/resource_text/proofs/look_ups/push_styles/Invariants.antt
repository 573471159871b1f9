use Rattle.std.proofs.Common.{◌≡◌, ◌++◌, map, drop}
use Rattle.res_value.specs.declared.res_id.ResId.{ResId}
use Rattle.reference_resolver.specs.config_precedence.config_record.DeviceSeen.{device_numbers}
use Rattle.resource_text.specs.GoalLookUps.{style_ids}
use Rattle.resource_text.proofs.look_ups.push_styles.Given as goal

-- those so far, and those of the styles that are left, are all
abbrev pub invariant-loop-style : goal.invariant-loop-style
invariant-loop-style l =
    map (λ (id : ResId). id.0) l.ids.items ++ style_ids l.stack (device_numbers l.device) (drop l.style-index l.styles)
    ≡ map (λ (id : ResId). id.0) l.fn.ids.items ++ style_ids l.stack (device_numbers l.device) l.styles
