use Rattle.std.proofs.Common.{arith}
use Rattle.bags_themes.specs.Course.{trace_from, after_course}
use Rattle.bags_themes.proofs.CourseSteps.{reference_begins}
use Rattle.bags_themes.proofs.course.Course.of_id.Goals as goal

pub returns : goal.returns
unfolding trace_from after_course
returns c = record { same = λ stack d. reference_begins stack 20 c.args.id.0 d; few = omega arith }
