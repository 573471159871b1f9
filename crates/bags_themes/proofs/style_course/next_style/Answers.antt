use Rattle.std.proofs.Common.{◌≡◌, ◌+◌, ◌*◌, List, ◌∷◌, length, sym, ◌∙◌, ap, arith}
use Rattle.reference_resolver.specs.res_value.declared.res_id.ResId.{ResId}
use Rattle.reference_resolver.specs.Selection.{selected, step_of}
use Rattle.reference_resolver.specs.Trace.{scan_look_up}
use Rattle.bags_themes.specs.declared.style_course.StyleCourse.{StyleCourse}
use Rattle.bags_themes.specs.FoundBag.{found_bags_of}
use Rattle.bags_themes.specs.Theme.{value_of}
use Rattle.bags_themes.specs.AttributeTrace.{behind, styles_trace}
use Rattle.bags_themes.specs.Course.{after_style, look_ups_in, trace_from, after_course}
use Rattle.bags_themes.proofs.CourseSteps.{no_styles, next_begins}
use Rattle.bags_themes.proofs.Courses.{way_over}
use Rattle.bags_themes.proofs.style_course.next_style.Goals as goal

pub returns-in_default : goal.returns-in_default
returns-in_default c =
    let none : length c.args.styles.now ≡ 0 = c.in_default.ensures.cases in
    way_over _ _ _ _ _ (λ stack d. no_styles stack c.args.attr.0 (value_of c.args.theme) c.args.styles.now d none) (omega arith) c.after_styles.ensures

pub returns : goal.returns
unfolding trace_from after_course
returns c =
    let style = c.in-Some.style.now in
    let styles = c.in-Some.styles.now in
    let all : c.args.styles.now ≡ style ∷ styles = c.in-Some.ensures.cases.0 in
    let made : c.in_ok-new-2.field-0.value ≡ record { style = style; found = c.new.result; left = 65; theme = c.in_ok-new.field-0; styles = c.in-Some.styles; attr = c.args.attr } = c.in_ok-new-2.ensures.ok in
    let is : look_ups_in c.in_ok-new-2.field-0.value ≡ 20 + 65 + 66 * length styles = ap look_ups_in made in
    record {
      same = λ stack d.
          ap (λ (course : StyleCourse). behind (scan_look_up step_of stack d style.0) (after_style stack course (selected stack style.0 d) d)) made
          ∙ next_begins stack c.args.attr.0 (value_of c.in_ok-new.field-0.value) (value_of c.args.theme) style styles (found_bags_of c.new.result.items) d (ap value_of c.in_ok-new.ensures.ok) (ap found_bags_of c.new.ensures.items)
          ∙ ap (λ (all : List ResId). styles_trace stack c.args.attr.0 (value_of c.args.theme) all d) (sym all);
      few = omega (arith, is, ap length all);
    }
