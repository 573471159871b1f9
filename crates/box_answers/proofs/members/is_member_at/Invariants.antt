use Rattle.std.proofs.Common.{◌<◌}
use Rattle.config_precedence.specs.config_record.declared.coord.Coord.{Coord}
use Rattle.config_precedence.specs.config_record.Coord.{place_of}
use Rattle.config_precedence.specs.config_record.ComparedNumber.{device_number}
use Rattle.config_precedence.specs.config_record.DeviceSeen.{device_numbers}
use Rattle.box_answers.specs.NumberSet.{IsIn}
use Rattle.box_answers.specs.Members.{sets_of, set_at}
use Rattle.box_answers.proofs.members.is_member_at.Given as goal

abbrev pub invariant-loop-coord : goal.invariant-loop-coord
invariant-loop-coord l = (c : Coord) → place_of c < l.coord-index → IsIn (set_at (sets_of l.sets) c) (device_number (device_numbers l.device) c)
