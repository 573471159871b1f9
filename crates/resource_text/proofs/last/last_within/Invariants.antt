use Rattle.std.proofs.Common.{◌≡◌}
use Rattle.reference_resolver.specs.config_precedence.config_record.DeviceSeen.{device_numbers}
use Rattle.reference_resolver.specs.Ends.{end_of}
use Rattle.resource_text.specs.EndNotation.{last_selected}
use Rattle.resource_text.proofs.last.last_within.Given as goal

-- the end, and the row that is selected last, are those of the id at hand, with the references that are left
abbrev pub invariant-chain : goal.invariant-chain
invariant-chain l =
    (end_of l.stack l.left l.id.0 (device_numbers l.device) ≡ end_of l.stack l.fn.most l.fn.id.0 (device_numbers l.device))
    × (last_selected l.stack l.left l.id.0 (device_numbers l.device) ≡ last_selected l.stack l.fn.most l.fn.id.0 (device_numbers l.device))

abbrev pub decreases-chain : goal.decreases-chain
decreases-chain l = l.left
