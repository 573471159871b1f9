use Rattle.std.proofs.Common.{◌≡◌, ◌+◌, sym, ◌∙◌, ap, arith}
use Rattle.std.specs.Option.{option_map}
use Rattle.reference_resolver.specs.overlay_map.Candidates.{cand_of}
use Rattle.bags_themes.specs.declared.course.Course.{Course}
use Rattle.bags_themes.specs.BagIds.{most_bags}
use Rattle.bags_themes.specs.declared.style_course.StyleCourse.{StyleCourse}
use Rattle.bags_themes.specs.Course.{after_style, look_ups_in, look_ups_after, trace_from, after_course}
use Rattle.bags_themes.proofs.Courses.{way_over, way_over_ok}
use Rattle.bags_themes.proofs.course.Course.after.Goals as goal

pub returns-in-References : goal.returns-in-References
unfolding after_course
returns-in-References c =
    let few : c.in-References.left ≡ look_ups_after c.args.self.now = ap look_ups_after (sym c.in-References.is) in
    way_over _ _ _ _ _ (λ stack d. ap (λ (course : Course). after_course stack course c.args.id.0 (option_map cand_of c.args.best.now) d) (sym c.in-References.is)) (omega arith) c.after_reference.ensures

pub returns-in-Style : goal.returns-in-Style
unfolding after_course
returns-in-Style c =
    let few : look_ups_in c.as_ref.result.now ≡ look_ups_after c.args.self.now = ap look_ups_in c.as_ref.ensures ∙ ap look_ups_after (sym c.in-Style.is) in
    way_over_ok _ _ _ _ _ (λ stack d.
    ap (λ (course : StyleCourse). after_style stack course (option_map cand_of c.args.best.now) d) c.as_ref.ensures
    ∙ ap (λ (course : Course). after_course stack course c.args.id.0 (option_map cand_of c.args.best.now) d) (sym c.in-Style.is)) (omega arith) c.after.ensures

pub returns-in-Ended : goal.returns-in-Ended
unfolding trace_from after_course
returns-in-Ended c = record {
  same = λ stack d. ap (λ (course : Course). after_course stack course c.args.id.0 (option_map cand_of c.args.best.now) d) (sym c.in-Ended.is);
  few = omega arith;
}

pub returns-in-Content : goal.returns-in-Content
unfolding after_course
returns-in-Content c =
    let few : c.in-Content.left + most_bags ≡ look_ups_after c.args.self.now = ap look_ups_after (sym c.in-Content.is) in
    way_over _ _ _ _ _ (λ stack d. ap (λ (course : Course). after_course stack course c.args.id.0 (option_map cand_of c.args.best.now) d) (sym c.in-Content.is)) (omega arith) c.after_content.ensures

pub returns-in-Parents : goal.returns-in-Parents
unfolding after_course
returns-in-Parents c =
    let few : c.in-Parents.left ≡ look_ups_after c.args.self.now = ap look_ups_after (sym c.in-Parents.is) in
    way_over _ _ _ _ _ (λ stack d. ap (λ (course : Course). after_course stack course c.args.id.0 (option_map cand_of c.args.best.now) d) (sym c.in-Parents.is)) (omega arith) c.after_parent.ensures
