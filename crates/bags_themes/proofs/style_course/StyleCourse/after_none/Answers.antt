use Rattle.std.proofs.Common.{◌≡◌, ◌<◌, true, List, length, ap, ◌∙◌, arith}
use Rattle.std.proofs.lemmas.List.{length-map}
use Rattle.std.proofs.lemmas.Bool.Decides.{nat_tests}
use Rattle.reference_resolver.specs.declared.end.End.{End}
use Rattle.bags_themes.specs.declared.found_bag.FoundBag.{FoundBag}
use Rattle.bags_themes.specs.Bag.{merged}
use Rattle.bags_themes.specs.FoundBag.{found_bag_of, found_bags_of}
use Rattle.bags_themes.specs.Theme.{value_of, values_after}
use Rattle.bags_themes.specs.AttributeTrace.{ended, styles_trace}
use Rattle.bags_themes.specs.Course.{trace_from}
use Rattle.bags_themes.proofs.CourseSteps.{no_style, no_parent}
use Rattle.bags_themes.proofs.Courses.{way_over_ok}
use Rattle.bags_themes.proofs.style_course.StyleCourse.after_none.Goals as goal

pub returns-then-is_empty : goal.returns-then-is_empty
unfolding trace_from
returns-then-is_empty c =
    let self = c.args.self.now in
    let empty : length self.found.items ≡ 0 = grind (arith, nat_tests) in
    let none : length (found_bags_of self.found.items) ≡ 0 = length-map self.found.items found_bag_of ∙ empty in
    record {
      same = λ stack d. ap (λ (end : End). ended end) c.style_end.ensures ∙ no_style stack self.attr.0 self.styles.now (value_of self.theme.value) self.style self.left (found_bags_of self.found.items) c.args.fault d none;
      few = omega arith;
    }

pub returns : goal.returns
returns c =
    let self = c.args.self.now in
    let full : 0 < length self.found.items = grind (arith, nat_tests) in
    let some : 0 < length (found_bags_of self.found.items) = omega (arith, length-map self.found.items found_bag_of, full) in
    let lent : c.deref.result.now ≡ self.found.items = c.deref.ensures.value in
    way_over_ok _ _ _ _ _ (λ stack d.
    ap (λ (bags : List FoundBag). styles_trace stack self.attr.0 (values_after true (merged (found_bags_of bags)) (value_of self.theme.value)) self.styles.now d) lent
    ∙ no_parent stack self.attr.0 self.styles.now (value_of self.theme.value) self.style self.left (found_bags_of self.found.items) c.args.fault d some) (omega arith) c.after_chain.ensures
