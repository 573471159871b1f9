use Rattle.std.proofs.Common.{drop}
use Rattle.config_precedence.specs.config_record.Record.{record_bytes}
use Rattle.config_precedence.specs.config_record.ComparedNumber.{record_number}
use Rattle.box_answers.specs.Members.{sets_of}
use Rattle.box_answers.proofs.OnePass.{HasPassed}
use Rattle.box_answers.proofs.matching.pass_all.Given as goal

abbrev pub invariant-loop-rule : goal.invariant-loop-rule
invariant-loop-rule l = HasPassed (sets_of l.sets) l.conditions (record_number (record_bytes l.stored)) l.parted (drop l.rule-index l.conditions)
