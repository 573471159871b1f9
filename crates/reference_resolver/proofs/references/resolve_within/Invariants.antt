use Rattle.std.proofs.Common.{◌≡◌}
use Rattle.config_precedence.specs.config_record.DeviceSeen.{device_numbers}
use Rattle.reference_resolver.specs.Ends.{end_of}
use Rattle.reference_resolver.proofs.references.resolve_within.Given as goal

-- the end is that of the id at hand, with the references that are left
abbrev pub invariant-chain : goal.invariant-chain
invariant-chain l = end_of l.stack l.left l.id.0 (device_numbers l.device) ≡ end_of l.stack l.fn.most l.fn.id.0 (device_numbers l.device)

abbrev pub decreases-chain : goal.decreases-chain
decreases-chain l = l.left
