use Rattle.std.proofs.Common.{◌≡◌, drop}
use Rattle.std.specs.List.{list_any}
use Rattle.command_base.specs.answer_text.config_record.DeviceSeen.{device_numbers}
use Rattle.resource_tool.specs.QueryOutput.{is_unresolved_for}
use Rattle.resource_tool.proofs.query.has_unresolved.Given as goal

-- one of the ids that are left ends at no value where one of all does
abbrev pub invariant-loop-id : goal.invariant-loop-id
invariant-loop-id l =
    list_any (is_unresolved_for l.stack (device_numbers l.device)) (drop l.id-index l.ids) ≡ list_any (is_unresolved_for l.stack (device_numbers l.device)) l.ids
