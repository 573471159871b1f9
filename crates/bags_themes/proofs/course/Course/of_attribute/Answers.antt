use Rattle.std.proofs.Common.{◌≡◌, refl, ap, ◌∙◌, arith}
use Rattle.std.proofs.Math.Path.{fun_ext}
use Rattle.bags_themes.specs.Theme.{AttributeValues, value_of, unset}
use Rattle.bags_themes.specs.AttributeTrace.{styles_trace}
use Rattle.bags_themes.proofs.Courses.{way_over_ok}
use Rattle.bags_themes.proofs.course.Course.of_attribute.Goals as goal

pub returns : goal.returns
returns c =
    let nothing : value_of c.new.result ≡ unset = ap value_of c.new.ensures ∙ fun_ext (λ attr. refl) in
    way_over_ok _ _ _ _ _ (λ stack d. ap (λ (values : AttributeValues). styles_trace stack c.args.attr.0 values c.args.styles.now d) nothing) (omega arith) c.next_style.ensures
