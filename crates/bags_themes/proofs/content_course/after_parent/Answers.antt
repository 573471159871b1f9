use Rattle.std.proofs.Common.{ℕ, List, ap, arith}
use Rattle.reference_resolver.specs.declared.end.End.TheVariants as ends
use Rattle.bags_themes.specs.AttributeTrace.{steps_of_ids}
use Rattle.bags_themes.specs.Course.{trace_from, after_course}
use Rattle.bags_themes.proofs.content_course.after_parent.Goals as goal

pub returns-in-Some : goal.returns-in-Some
unfolding trace_from after_course
returns-in-Some c = record {
  same = λ stack d. ap (λ (ids : List ℕ). record { steps = steps_of_ids stack d ids; end = ends.Bag c.args.bag }) (c.in-Some.ensures.ids stack d);
  few = omega (arith, c.in-Some.ensures.some);
}

pub returns-in-None : goal.returns-in-None
unfolding trace_from
returns-in-None c = record {
  same = λ stack d. ap (λ (ids : List ℕ). record { steps = steps_of_ids stack d ids; end = ends.Bag c.args.bag }) (c.in-None.ensures.ids stack d);
  few = omega arith;
}
