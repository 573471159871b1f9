use Rattle.std.proofs.lemmas.List.{drop_all}
use Rattle.config_record.specs.DeviceSeen.{device_numbers}
use Rattle.config_record.proofs.SeparatorSteps.{ContinuesAllBut-none, ContinuesAllBut-next, ContinuesAllBut-end}
use Rattle.notation.specs.LineParts.{line_parts_at}
use Rattle.notation.proofs.line_parts.write_line_parts.Goals as goal

pub loop-coord-init : goal.loop-coord-init
loop-coord-init g c = ContinuesAllBut-none (line_parts_at (device_numbers c.args.device.now)) _ _ _

pub loop-coord-preserved : goal.loop-coord-preserved
loop-coord-preserved g c =
    ContinuesAllBut-next (line_parts_at (device_numbers c.args.device.now)) _ _ _ _ _ _ c.args.coords.now c.loop-coord.coord-index _ c.loop-coord.invariant c.loop-coord-test.true c.in_ok-write_line_part.ensures

pub returns : goal.returns
returns g c = ContinuesAllBut-end _ _ _ _ _ _ _ c.loop-coord.invariant (drop_all c.loop-coord.coord-index c.args.coords.now c.loop-coord-test.false)
