use Rattle.std.proofs.Common.{drop, map}
use Rattle.contract_words.proofs.TextSteps.{PutsAllBut}
use Rattle.res_value.specs.declared.res_id.ResId.{ResId}
use Rattle.reference_resolver.specs.config_precedence.config_record.DeviceSeen.{device_numbers}
use Rattle.resource_text.specs.DeviceNotation.{qualifier_text}
use Rattle.resource_text.proofs.devices.write_qualifiers.Given as goal

abbrev pub invariant-loop-coord : goal.invariant-loop-coord
invariant-loop-coord g l =
    PutsAllBut (qualifier_text l.stack (map (λ (id : ResId). id.0) l.ids) (device_numbers l.other) (device_numbers l.device))
    (g.W.Write.contents l.fn.out) (g.W.Write.contents l.out) l.coords (drop l.coord-index l.coords)
