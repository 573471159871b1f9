use Rattle.std.proofs.Common.{◌∙◌}
use Rattle.cert_checker.specs.config_record.DeviceSeen.{device_numbers}
use Rattle.cert_maker.proofs.Listings.{changed-answers}
use Rattle.cert_maker.proofs.next_test.answers_yes.Goals as goal

pub returns : goal.returns
returns c =
    c.answer.ensures
    ∙ changed-answers c.args.parting.now (device_numbers c.args.parting.now.pair.yes) (device_numbers c.changed.result) c.args.at c.args.number c.changed.ensures.same c.changed.ensures.others
