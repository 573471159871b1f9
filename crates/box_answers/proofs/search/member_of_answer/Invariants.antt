use Rattle.std.proofs.Common.{drop}
use Rattle.config_precedence.specs.config_record.Record.{record_bytes}
use Rattle.config_precedence.specs.config_record.ComparedNumber.{record_number}
use Rattle.config_precedence.specs.config_record.DeviceSeen.{device_numbers}
use Rattle.box_answers.specs.Members.{sets_of}
use Rattle.box_answers.proofs.SearchSteps.{Reaches}
use Rattle.box_answers.proofs.search.member_of_answer.Given as goal

abbrev pub invariant-loop-rule : goal.invariant-loop-rule
invariant-loop-rule l =
    Reaches (sets_of l.sets) l.question.rules.now (record_number (record_bytes l.question.a)) (record_number (record_bytes l.question.b))
    l.want (device_numbers l.device) (drop l.rule-index l.question.rules.now)
