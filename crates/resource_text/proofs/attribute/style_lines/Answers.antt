use Rattle.std.proofs.Common.{map, ap, ◌∙◌}
use Rattle.std.proofs.lemmas.List.{get_or_default, take_all}
use Rattle.resource_text.specs.AttrNotation.{style_line}
use Rattle.resource_text.specs.ColumnsSeen.{line_of}
use Rattle.resource_text.proofs.Mapped.{one-more}
use Rattle.resource_text.proofs.attribute.style_lines.Goals as goal

pub loop-step-preserved : goal.loop-step-preserved
loop-step-preserved c =
    one-more line_of (style_line c.args.naming.now) c.args.steps.now c.loop-step.step-index _ c.loop-step.lines.items _ c.in_ok-line.line c.loop-step-test.true
    (get_or_default c.args.steps.now c.loop-step.step-index _ _ c.loop-step-test.true) c.loop-step.invariant c.in_ok-push.ensures.items c.in_ok-line.ensures

pub returns : goal.returns
returns c = c.loop-step.invariant ∙ ap (map (style_line c.args.naming.now)) (take_all c.loop-step.step-index c.args.steps.now c.loop-step-test.false)
