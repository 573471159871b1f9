use Rattle.std.proofs.Common.{drop}
use Rattle.config_record.specs.DeviceSeen.{device_numbers}
use Rattle.config_record.specs.locales.Locale.{dash}
use Rattle.config_record.proofs.SeparatorSteps.{ContinuesAllBut}
use Rattle.notation.specs.LineParts.{line_parts_at}
use Rattle.notation.proofs.line_parts.write_line_parts.Given as goal

-- the parts so far are written
abbrev pub invariant-loop-coord : goal.invariant-loop-coord
invariant-loop-coord g l =
    ContinuesAllBut (line_parts_at (device_numbers l.device)) (record { byte = dash; due = l.fn.due }) (record { byte = dash; due = l.due }) (g.W.Write.contents l.fn.out) (g.W.Write.contents l.out) l.coords (drop l.coord-index l.coords)
