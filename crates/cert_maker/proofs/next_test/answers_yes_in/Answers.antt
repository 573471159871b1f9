use Rattle.std.proofs.Common.{◌∙◌, ap}
use Rattle.cert_checker.specs.config_record.declared.coord.Coord.TheVariants.{Locale}
use Rattle.cert_checker.specs.config_record.DeviceSeen.{device_numbers}
use Rattle.cert_checker.specs.box_trace.Parting.{answer_of}
use Rattle.cert_maker.specs.Listed.{answer_with}
use Rattle.cert_maker.proofs.next_test.answers_yes_in.Goals as goal

pub returns-clause-value : goal.returns-clause-value
returns-clause-value c = c.answers_yes.ensures ∙ ap (answer_with (answer_of c.args.parting.now) (device_numbers c.args.parting.now.pair.yes) Locale) c.number.ensures.value
