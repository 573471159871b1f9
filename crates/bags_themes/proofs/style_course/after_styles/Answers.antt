use Rattle.std.proofs.Common.{sym, ◌∙◌, ap, arith}
use Rattle.bags_themes.specs.declared.slot.Slot.{Slot}
use Rattle.bags_themes.specs.AttributeTrace.{slot_trace}
use Rattle.bags_themes.specs.Course.{trace_from, after_course}
use Rattle.bags_themes.proofs.CourseSteps.{reference_begins}
use Rattle.bags_themes.proofs.style_course.after_styles.Goals as goal

pub returns-in-Refers : goal.returns-in-Refers
unfolding trace_from after_course
returns-in-Refers c = record {
  same = λ stack d. reference_begins stack 19 c.in-Refers.target.0 d ∙ ap (λ (slot : Slot). slot_trace stack slot d) (sym c.in-Refers.is ∙ c.slot.ensures);
  few = omega arith;
}

pub returns-in-Ends : goal.returns-in-Ends
unfolding trace_from after_course
returns-in-Ends c = record {
  same = λ stack d. ap (λ (slot : Slot). slot_trace stack slot d) (sym c.in-Ends.is ∙ c.slot.ensures);
  few = omega arith;
}
