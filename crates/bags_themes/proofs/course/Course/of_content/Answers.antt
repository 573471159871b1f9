use Rattle.std.proofs.Common.{arith}
use Rattle.bags_themes.specs.ContentTrace.{content_trace}
use Rattle.bags_themes.specs.Course.{trace_from, after_course}
use Rattle.bags_themes.proofs.ContentCourses.{content_within_begins}
use Rattle.bags_themes.proofs.course.Course.of_content.Goals as goal

pub returns : goal.returns
unfolding trace_from after_course content_trace
returns c = record { same = λ stack d. content_within_begins stack 20 c.args.id.0 d; few = omega arith }
