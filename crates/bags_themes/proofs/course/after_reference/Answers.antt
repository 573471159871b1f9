use Rattle.std.proofs.Common.{◌-◌, sym, ◌∙◌, ap, arith}
use Rattle.reference_resolver.specs.declared.next.Next.{Next}
use Rattle.std.specs.Option.{option_map}
use Rattle.reference_resolver.specs.overlay_map.Candidates.{cand_of}
use Rattle.reference_resolver.specs.Ends.{next_of, cut_off}
use Rattle.bags_themes.specs.Course.{trace_by, trace_from, after_course}
use Rattle.bags_themes.proofs.CourseSteps.{reference_begins, leads_on}
use Rattle.bags_themes.proofs.course.after_reference.Goals as goal

pub returns-in-LookUp : goal.returns-in-LookUp
unfolding trace_from after_course
returns-in-LookUp c =
    let leads = sym c.in-LookUp.is ∙ c.cut_off.ensures ∙ ap (cut_off c.args.left) c.of.ensures in
    record {
      same = λ stack d. reference_begins stack (c.args.left - 1) c.in-LookUp.target.0 d ∙ ap (λ (next : Next). trace_by stack c.args.left d next) leads;
      few = omega (arith, leads_on c.args.left (next_of c.args.id.0 (option_map cand_of c.args.best.now)) c.in-LookUp.target leads);
    }

pub returns-in-EndsAt : goal.returns-in-EndsAt
unfolding trace_from after_course
returns-in-EndsAt c = record {
  same = λ stack d. ap (λ (next : Next). trace_by stack c.args.left d next) (sym c.in-EndsAt.is ∙ c.cut_off.ensures ∙ ap (cut_off c.args.left) c.of.ensures);
  few = omega arith;
}
