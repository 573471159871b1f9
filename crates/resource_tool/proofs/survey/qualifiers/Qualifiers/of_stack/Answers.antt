use Rattle.std.proofs.Common.{sym, ap, ◌∙◌, arith}
use Rattle.resource_tool.specs.declared.survey.qualifiers.Qualifiers.{Qualifiers}
use Rattle.resource_tool.specs.Counting.{said_by_layer, spread_in}
use Rattle.resource_tool.proofs.QualifierLaws.{spread-of_stack}
use Rattle.resource_tool.proofs.QualifierSteps.{counted-layer, counted-end_at}
use Rattle.resource_tool.proofs.survey.qualifiers.Qualifiers.of_stack.Goals as goal

pub loop-place-preserved : goal.loop-place-preserved
loop-place-preserved c =
    sym (counted-layer c.loop-place.qualifiers c.add_layer.new.self c.args.stack.now c.loop-place.place (omega (arith, c.loop-place-test.true, c.len-place-end.ensures.value)) c.add_layer.ensures)
    ∙ c.loop-place.invariant

pub returns : goal.returns
returns c =
    let counted = sym (counted-end_at c.loop-place.qualifiers said_by_layer c.args.stack.now c.loop-place.place (omega (arith, c.loop-place-test.false, c.len-place-end.ensures.value)))
    ∙ c.loop-place.invariant in
    λ k. ap (λ (q : Qualifiers). spread_in q k) counted ∙ spread-of_stack c.args.stack.now k
