use Rattle.std.proofs.Common.{◌≡◌, ◌++◌, map}
use Rattle.res_value.specs.declared.res_id.ResId.{ResId}
use Rattle.reference_resolver.specs.config_precedence.config_record.DeviceSeen.{device_numbers}
use Rattle.reference_resolver.specs.Trace.{look_ups_of}
use Rattle.resource_text.proofs.look_ups.push_references.Given as goal

-- those so far, and those from the id at hand on, are all
abbrev pub invariant-chain : goal.invariant-chain
invariant-chain l =
    map (λ (id : ResId). id.0) l.ids.items ++ look_ups_of l.stack l.left l.id.0 (device_numbers l.device)
    ≡ map (λ (id : ResId). id.0) l.fn.ids.items ++ look_ups_of l.stack l.fn.most l.fn.id.0 (device_numbers l.device)

abbrev pub decreases-chain : goal.decreases-chain
decreases-chain l = l.left
