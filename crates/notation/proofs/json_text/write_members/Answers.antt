use Rattle.config_record.specs.Coord.{all_coords}
use Rattle.config_record.proofs.SeparatorSteps.{Continues-joined}
use Rattle.notation.specs.JsonText.{device_members}
use Rattle.notation.proofs.json_text.write_members.Goals as goal

pub returns : goal.returns
unfolding device_members all_coords
returns g c = Continues-joined _ _ _ _ _ c.in_ok-write_each.ensures
