use Rattle.std.proofs.Common.{true, ap, ◌∙◌, arith}
use Rattle.bags_themes.specs.Bag.{merged}
use Rattle.bags_themes.specs.FoundBag.{found_bags_of}
use Rattle.bags_themes.specs.Theme.{ThemeOf, value_of, values_after}
use Rattle.bags_themes.proofs.CourseSteps.{applied}
use Rattle.bags_themes.proofs.Courses.{way_over_ok}
use Rattle.bags_themes.proofs.style_course.StyleCourse.after_chain.Goals as goal

pub returns : goal.returns
returns c =
    let self = c.args.self.now in
    let rows = merged (found_bags_of c.args.chain.now) in
    way_over_ok _ _ _ _ _ (λ stack d. applied stack self.attr.0 self.styles.now rows self.theme.value c.in_ok-theme.theme d (λ attr.
    c.in_ok-theme.ensures attr ∙ ap (λ (theme : ThemeOf). values_after true rows (value_of theme) attr) c.as_ref.ensures)) (omega arith) c.next_style.ensures
