use Rattle.config_record.specs.Qualifiers.{device_text}
use Rattle.config_record.proofs.SeparatorSteps.{Continues-joined}
use Rattle.config_record.proofs.device.Device.write_qualifiers.Goals as goal

pub returns : goal.returns
unfolding device_text
returns g c = Continues-joined _ _ _ _ _ (rw c.new-space.ensures at c.in_ok-write_coordinates.ensures)
