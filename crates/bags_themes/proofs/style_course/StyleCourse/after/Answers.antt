use Rattle.std.proofs.Common.{◌≡◌, ◌-◌, ◌+◌, ◌*◌, ◌==◌, true, false, List, length, sym, ap, ◌∙◌, arith}
use Rattle.std.specs.Prelude.{Result, Ok, Err}
use Rattle.std.specs.Option.{option_map}
use Rattle.std.proofs.lemmas.Bool.Decides.{nat_tests}
use Rattle.reference_resolver.specs.overlay_map.Candidates.{cand_of}
use Rattle.reference_resolver.specs.Selection.{selected, step_of}
use Rattle.reference_resolver.specs.Trace.{scan_look_up}
use Rattle.bags_themes.specs.declared.bag_fault.BagFault.{BagFault}
use Rattle.bags_themes.specs.declared.style_course.StyleCourse.{StyleCourse}
use Rattle.bags_themes.specs.Bag.{FoundBagOf, bag_in, merged}
use Rattle.bags_themes.specs.FoundBag.{found_bag_of, found_bags_of, seen_bag}
use Rattle.bags_themes.specs.Theme.{value_of, values_after}
use Rattle.bags_themes.specs.AttributeTrace.{behind, styles_trace}
use Rattle.bags_themes.specs.Course.{after_bag, after_style, look_ups_in, trace_from, after_course}
use Rattle.bags_themes.proofs.ChainSteps.{found_bags_of-last}
use Rattle.bags_themes.proofs.CourseSteps.{too_many, top_bag, parent_course}
use Rattle.bags_themes.proofs.Courses.{way_over_ok}
use Rattle.bags_themes.proofs.style_course.StyleCourse.after.Goals as goal

pub returns-in-Err : goal.returns-in-Err
returns-in-Err c =
    let self = c.args.self.now in
    let found : Err c.in-Err.fault ≡ bag_in (option_map cand_of c.args.best.now) = ap seen_bag (sym c.in-Err.is) ∙ c.of.ensures in
    way_over_ok _ _ _ _ _ (λ stack d. ap (λ (found : Result FoundBagOf BagFault). after_bag stack self.attr.0 self.styles.now (value_of self.theme.value) self.style self.left (found_bags_of self.found.items) found d) found) (omega arith) c.after_none.ensures

pub returns-then-self-eq0 : goal.returns-then-self-eq0
unfolding trace_from
returns-then-self-eq0 c =
    let self = c.args.self.now in
    let bag = found_bag_of c.in-Ok.bag in
    let found : Ok bag ≡ bag_in (option_map cand_of c.args.best.now) = ap seen_bag (sym c.in-Ok.is) ∙ c.of.ensures in
    record {
      same = λ stack d.
          too_many stack self.attr.0 self.styles.now (value_of self.theme.value) self.style self.left (found_bags_of self.found.items) bag d c.if-self-eq0.true
          ∙ ap (λ (found : Result FoundBagOf BagFault). after_bag stack self.attr.0 self.styles.now (value_of self.theme.value) self.style self.left (found_bags_of self.found.items) found d) found;
      few = omega arith;
    }

pub returns-then-bag-eq0 : goal.returns-then-bag-eq0
returns-then-bag-eq0 c =
    let self = c.args.self.now in
    let bag = found_bag_of c.in-Ok.bag in
    let found : Ok bag ≡ bag_in (option_map cand_of c.args.best.now) = ap seen_bag (sym c.in-Ok.is) ∙ c.of.ensures in
    let top : (bag.parent == 0) ≡ true = grind (arith, nat_tests) in
    let more = found_bags_of-last c.deref.result.now self.found.items c.in-Ok.bag (c.deref.ensures.value ∙ c.in_ok-found.ensures) in
    way_over_ok _ _ _ _ _ (λ stack d.
    ap (λ (bags : List FoundBagOf). styles_trace stack self.attr.0 (values_after true (merged bags) (value_of self.theme.value)) self.styles.now d) more
    ∙ top_bag stack self.attr.0 self.styles.now (value_of self.theme.value) self.style self.left (found_bags_of self.found.items) bag d (omega arith) top
    ∙ ap (λ (found : Result FoundBagOf BagFault). after_bag stack self.attr.0 self.styles.now (value_of self.theme.value) self.style self.left (found_bags_of self.found.items) found d) found) (omega arith) c.after_chain.ensures

pub returns : goal.returns
unfolding trace_from after_course
returns c =
    let self = c.args.self.now in
    let bag = found_bag_of c.in-Ok.bag in
    let found : Ok bag ≡ bag_in (option_map cand_of c.args.best.now) = ap seen_bag (sym c.in-Ok.is) ∙ c.of.ensures in
    let has : (bag.parent == 0) ≡ false = grind (arith, nat_tests) in
    let more = found_bags_of-last c.in_ok-found.found.items self.found.items c.in-Ok.bag c.in_ok-found.ensures in
    let made : c.in_ok-new.field-0.value ≡ record { style = self.style; found = c.in_ok-found.found; left = self.left - 1; theme = c.in_ok-clone.field-0; styles = self.styles; attr = self.attr } = c.in_ok-new.ensures.ok in
    let is : look_ups_in c.in_ok-new.field-0.value ≡ 20 + (self.left - 1) + 66 * length self.styles.now = ap look_ups_in made in
    record {
      same = λ stack d.
          ap (λ (course : StyleCourse). behind (scan_look_up step_of stack d bag.parent) (after_style stack course (selected stack bag.parent d) d)) made
          ∙ parent_course stack self.attr.0 self.styles.now (value_of c.in_ok-clone.field-0.value) (value_of self.theme.value) self.style self.left (found_bags_of c.in_ok-found.found.items) (found_bags_of self.found.items) bag d (ap value_of c.in_ok-clone.ensures.cases) more (omega arith) has
          ∙ ap (λ (found : Result FoundBagOf BagFault). after_bag stack self.attr.0 self.styles.now (value_of self.theme.value) self.style self.left (found_bags_of self.found.items) found d) found;
      few = omega (arith, is);
    }
