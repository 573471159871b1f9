use Rattle.std.proofs.Common.{ap}
use Rattle.reference_resolver.specs.config_record.DeviceSeen.{device_numbers}
use Rattle.reference_resolver.specs.Trace.{Trace}
use Rattle.bags_themes.specs.Theme.{unset}
use Rattle.bags_themes.proofs.AttributeEnds.{the_end_under_ok}
use Rattle.bags_themes.proofs.course.attribute_under.Goals as goal

pub returns : goal.returns
returns c =
    let stack = c.args.stack.now in
    let d = device_numbers c.args.device.now in
    the_end_under_ok stack c.args.attr.0 unset c.args.styles.now d c.end.result _ (ap (λ (t : Trace). t.end) (c.in_ok-of_attribute.ensures.same stack d)) c.end.ensures
