use Rattle.std.proofs.Common.{◌≡◌, fold, take}
use Rattle.serde_json.specs.View.{members_view}
use Rattle.config_box.specs.config_record.Device.{device_coordinate}
use Rattle.reference_resolver.specs.config_precedence.config_record.DeviceSeen.{device_numbers}
use Rattle.resource_text.specs.ConfigJson.{with_number_of}
use Rattle.resource_text.proofs.device_json.put_numbers.Given as goal

-- with those of the coordinates so far
abbrev pub invariant-loop-coord : goal.invariant-loop-coord
invariant-loop-coord l =
    members_view l.members.entries ≡ fold (with_number_of (device_coordinate (device_numbers l.device))) (members_view l.fn.members.entries) (take l.coord-index l.coords)
