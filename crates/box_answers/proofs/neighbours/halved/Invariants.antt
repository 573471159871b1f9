use Rattle.std.proofs.Common.{◌+◌, ◌-◌}
use Rattle.config_precedence.specs.config_record.ComparedNumber.{device_number}
use Rattle.config_precedence.specs.config_record.DeviceSeen.{device_numbers}
use Rattle.box_answers.specs.Members.{sets_of}
use Rattle.box_answers.specs.Question.{answered}
use Rattle.box_answers.specs.Sameness.{Parts}
use Rattle.box_answers.proofs.neighbours.halved.Given as goal

abbrev pub invariant-loop-middle : goal.invariant-loop-middle
invariant-loop-middle l = Parts (sets_of l.sets) (answered l.question) (device_numbers l.yes) (device_numbers l.no) l.coord

abbrev pub decreases-loop-middle : goal.decreases-loop-middle
decreases-loop-middle l =
    let x = device_number (device_numbers l.yes) l.coord in
    let y = device_number (device_numbers l.no) l.coord in
    (x - y) + (y - x)
