use Rattle.std.proofs.Common.{◌≡◌, fold, take}
use Rattle.serde_json.specs.View.{members_view}
use Rattle.resource_text.specs.DevicesJson.{with_narrower}
use Rattle.resource_text.proofs.devices_json.put_narrower.Given as goal

-- with those of the coordinates so far
abbrev pub invariant-loop-coord : goal.invariant-loop-coord
invariant-loop-coord l =
    members_view l.narrower.entries ≡ fold (with_narrower l.whole l.part) (members_view l.fn.narrower.entries) (take l.coord-index l.coords)
