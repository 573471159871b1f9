use Rattle.std.proofs.Common.{◌≡◌, drop}
use Rattle.config_record.specs.DeviceSeen.{device_numbers}
use Rattle.notation.specs.Line.{first_unlike}
use Rattle.notation.proofs.line.first_unlike.Given as goal

-- no coordinate so far differs
abbrev pub invariant-coords : goal.invariant-coords
invariant-coords l =
    first_unlike (drop l.coord-index l.coords) (device_numbers l.read) (device_numbers l.device) ≡ first_unlike l.coords (device_numbers l.read) (device_numbers l.device)
