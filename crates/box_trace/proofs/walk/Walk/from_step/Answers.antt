use Rattle.std.proofs.Common.{[], ap}
use Rattle.bags_themes.specs.Course.{trace_from, after_course}
use Rattle.bags_themes.specs.declared.course.Course.TheVariants.{Ended}
use Rattle.bags_themes.specs.declared.course.CourseStep.{CourseStep}
use Rattle.box_trace.proofs.Walks.{walk_first}
use Rattle.box_trace.proofs.walk.Walk.from_step.Goals as goal

pub returns-in_ok-none-in-EndsAt-clause-walked : goal.returns-in_ok-none-in-EndsAt-clause-walked
unfolding trace_from after_course
returns-in_ok-none-in-EndsAt-clause-walked c =
    let stack = c.args.stack.now in
    walk_first c.at_first.result (record { 0 = 0 }) (Ended c.in-EndsAt.end) _ stack c.args.members.now _ [] c.at_first.ensures.walked (λ d. ap (λ (step : CourseStep). trace_from stack step d) c.in-EndsAt.is) c.in_ok-none-in-EndsAt.ensures.others
