use Rattle.std.proofs.Common.{◌≡◌}
use Rattle.reference_resolver.specs.config_record.DeviceSeen.{device_numbers}
use Rattle.bags_themes.specs.Course.{trace_from, look_ups_from}
use Rattle.bags_themes.proofs.course.CourseStep.end.Given as goal

-- the end is that of the step at hand
abbrev pub invariant-look_ups : goal.invariant-look_ups
invariant-look_ups l = (trace_from l.stack l.step (device_numbers l.device)).end ≡ (trace_from l.stack l.fn.self (device_numbers l.device)).end

abbrev pub decreases-look_ups : goal.decreases-look_ups
decreases-look_ups l = look_ups_from l.step
