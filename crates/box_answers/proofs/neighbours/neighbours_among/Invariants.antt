use Rattle.config_precedence.specs.config_record.DeviceSeen.{device_numbers}
use Rattle.box_answers.specs.Members.{sets_of}
use Rattle.box_answers.specs.Question.{answered}
use Rattle.box_answers.proofs.Sides.{Approaches}
use Rattle.box_answers.proofs.neighbours.neighbours_among.Given as goal

abbrev pub invariant-loop-coord : goal.invariant-loop-coord
invariant-loop-coord l = Approaches (sets_of l.sets) (answered l.question) (device_numbers l.device) (device_numbers l.no) l.coord-index
