use Rattle.std.proofs.Common.{◌-◌, sym, ◌∙◌, ap, arith}
use Rattle.std.specs.Option.{option_map}
use Rattle.reference_resolver.specs.declared.next.Next.{Next}
use Rattle.reference_resolver.specs.overlay_map.Candidates.{cand_of}
use Rattle.reference_resolver.specs.Ends.{next_of, cut_off}
use Rattle.bags_themes.specs.Course.{content_by, trace_from, after_course}
use Rattle.bags_themes.proofs.CourseSteps.{leads_on}
use Rattle.bags_themes.proofs.Courses.{way_over}
use Rattle.bags_themes.proofs.ContentCourses.{content_within_begins}
use Rattle.bags_themes.proofs.content_course.after_content.Goals as goal

pub returns-in-LookUp : goal.returns-in-LookUp
unfolding trace_from after_course
returns-in-LookUp c =
    let leads = sym c.in-LookUp.is ∙ c.cut_off.ensures ∙ ap (cut_off c.args.left) c.of.ensures in
    let on = leads_on c.args.left (next_of c.args.id.0 (option_map cand_of c.args.best.now)) c.in-LookUp.target leads in
    record {
      same = λ stack d. content_within_begins stack (c.args.left - 1) c.in-LookUp.target.0 d ∙ ap (λ (next : Next). content_by stack c.args.left (option_map cand_of c.args.best.now) d next) leads;
      few = omega (arith, on);
    }

pub returns-in-EndsAt : goal.returns-in-EndsAt
returns-in-EndsAt c =
    let leads = sym c.in-EndsAt.is ∙ c.cut_off.ensures ∙ ap (cut_off c.args.left) c.of.ensures in
    way_over _ _ _ _ _ (λ stack d. ap (λ (next : Next). content_by stack c.args.left (option_map cand_of c.args.best.now) d next) leads) (omega arith) c.after_end.ensures
