use Rattle.std.proofs.Common.{sym, ◌∙◌, ap}
use Rattle.bags_themes.specs.declared.course.Course.{Course}
use Rattle.bags_themes.specs.declared.style_course.StyleCourse.{StyleCourse}
use Rattle.bags_themes.specs.Course.{after_style, look_ups_in, look_ups_after, after_course}
use Rattle.bags_themes.proofs.course.Course.shared.Goals as goal

pub returns-in_ok-clone-in-Style : goal.returns-in_ok-clone-in-Style
unfolding after_course
returns-in_ok-clone-in-Style c = record {
  same = λ stack id best d.
      ap (λ (course : StyleCourse). after_style stack course best d) c.in_ok-clone-in-Style.ensures.cases
      ∙ ap (λ (course : Course). after_course stack course id best d) (sym c.in-Style.is);
  few = ap look_ups_in c.in_ok-clone-in-Style.ensures.cases ∙ ap look_ups_after (sym c.in-Style.is);
}
