use Rattle.std.proofs.Common.{◌≡◌, fold, take}
use Rattle.serde_json.specs.View.{members_view}
use Rattle.config_box.specs.config_record.Record.{coordinate, record_bytes}
use Rattle.resource_text.specs.ConfigJson.{with_number_of}
use Rattle.resource_text.proofs.config_json.put_numbers.Given as goal

-- with those of the coordinates so far
abbrev pub invariant-loop-coord : goal.invariant-loop-coord
invariant-loop-coord l =
    members_view l.members.entries ≡ fold (with_number_of (coordinate (record_bytes l.config))) (members_view l.fn.members.entries) (take l.coord-index l.coords)
