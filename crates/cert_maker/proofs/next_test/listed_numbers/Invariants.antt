use Rattle.std.proofs.Common.{◌≡◌, filter, take}
use Rattle.cert_checker.specs.config_record.DeviceSeen.{device_numbers}
use Rattle.cert_checker.specs.box_trace.Parting.{answer_of}
use Rattle.cert_maker.specs.Listed.{answer_with}
use Rattle.cert_maker.proofs.next_test.listed_numbers.Given as goal

abbrev pub invariant-loop-number : goal.invariant-loop-number
invariant-loop-number l = l.listed.items ≡ filter (answer_with (answer_of l.parting) (device_numbers l.parting.pair.yes) l.at) (take l.number-index l.numbers)
