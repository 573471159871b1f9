use Rattle.std.proofs.Common.{◌≡◌, drop}
use Rattle.std.specs.List.{position_from}
use Rattle.config_record.specs.Record.{record_bytes}
use Rattle.config_record.specs.ComparedNumber.{record_number, device_number}
use Rattle.config_record.specs.DeviceSeen.{device_numbers}
use Rattle.config_match.specs.Table.{keeps_out}
use Rattle.config_match.proofs.table.place_keeping_out.Given as goal

abbrev pub invariant-loop-place : goal.invariant-loop-place
invariant-loop-place l =
    let test = keeps_out (record_number (record_bytes l.a)) (record_number (record_bytes l.b)) (device_number (device_numbers l.device)) in
    position_from test l.place (drop l.place l.rules) ≡ position_from test 0 l.rules
