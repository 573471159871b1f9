use Rattle.std.proofs.Common.{◌≡◌, ◌++◌, drop, None}
use Rattle.reference_resolver.specs.config_precedence.config_record.DeviceSeen.{device_numbers}
use Rattle.resource_text.specs.AttrNotation.{style_steps}
use Rattle.resource_text.proofs.attribute.style_steps.Given as goal

-- the steps so far, and those of the styles that are left, are all steps
abbrev pub invariant-loop-style : goal.invariant-loop-style
invariant-loop-style l =
    l.steps.items ++ style_steps l.stack (device_numbers l.device) l.force l.attr.0 l.set (drop l.style-index l.styles)
    ≡ style_steps l.stack (device_numbers l.device) l.force l.attr.0 None l.styles
