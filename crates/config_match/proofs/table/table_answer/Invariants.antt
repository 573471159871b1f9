use Rattle.std.proofs.Common.{◌≡◌, drop}
use Rattle.config_record.specs.Record.{record_bytes}
use Rattle.config_record.specs.ComparedNumber.{record_number, device_number}
use Rattle.config_record.specs.DeviceSeen.{device_numbers}
use Rattle.config_match.specs.Table.{answer_of_table}
use Rattle.config_match.proofs.table.table_answer.Given as goal

abbrev pub invariant-loop-rule : goal.invariant-loop-rule
invariant-loop-rule l =
    answer_of_table (drop l.rule-index l.rules) (record_number (record_bytes l.a)) (record_number (record_bytes l.b)) (device_number (device_numbers l.device))
    ≡ answer_of_table l.rules (record_number (record_bytes l.a)) (record_number (record_bytes l.b)) (device_number (device_numbers l.device))
