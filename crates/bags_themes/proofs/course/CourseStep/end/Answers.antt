use Rattle.std.proofs.Common.{sym, ◌∙◌, ap}
use Rattle.reference_resolver.specs.config_record.DeviceSeen.{device_numbers}
use Rattle.bags_themes.specs.declared.course.CourseStep.{CourseStep}
use Rattle.bags_themes.specs.Course.{trace_from}
use Rattle.bags_themes.proofs.Courses.{end_behind}
use Rattle.bags_themes.proofs.course.CourseStep.end.Goals as goal

pub returns-in-EndsAt : goal.returns-in-EndsAt
unfolding trace_from
returns-in-EndsAt c =
    ap (λ (step : CourseStep). (trace_from c.args.stack.now step (device_numbers c.args.device.now)).end) (sym c.in-EndsAt.is)
    ∙ c.look_ups.invariant

pub look_ups-preserved : goal.look_ups-preserved
look_ups-preserved c =
    end_behind c.args.stack.now (device_numbers c.args.device.now) _ _ c.in-LookUp.id c.in-LookUp.course _ _ c.in-LookUp.is c.select.ensures.value
    (c.in_ok-step-in-LookUp.ensures.same c.args.stack.now (device_numbers c.args.device.now)) c.look_ups.invariant

pub look_ups-preserved-in_ok-step-in-LookUp : goal.look_ups-preserved-in_ok-step-in-LookUp
look_ups-preserved-in_ok-step-in-LookUp c =
    end_behind c.args.stack.now (device_numbers c.args.device.now) _ _ c.in-LookUp.id c.in-LookUp.course _ _ c.in-LookUp.is c.select.ensures.value
    (c.in_ok-step-in-LookUp.ensures.same c.args.stack.now (device_numbers c.args.device.now)) c.look_ups.invariant
