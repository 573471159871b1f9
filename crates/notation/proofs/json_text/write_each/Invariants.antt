use Rattle.std.proofs.Common.{drop}
use Rattle.config_record.specs.DeviceSeen.{device_numbers}
use Rattle.config_record.proofs.SeparatorSteps.{ContinuesAllBut}
use Rattle.notation.specs.LineLocale.{comma}
use Rattle.notation.specs.JsonText.{members_at}
use Rattle.notation.proofs.json_text.write_each.Given as goal

-- the members so far are written
abbrev pub invariant-loop-coord : goal.invariant-loop-coord
invariant-loop-coord g l =
    ContinuesAllBut (members_at (device_numbers l.device)) (record { byte = comma; due = l.fn.due }) (record { byte = comma; due = l.due }) (g.W.Write.contents l.fn.out) (g.W.Write.contents l.out) l.coords (drop l.coord-index l.coords)
