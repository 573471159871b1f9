use Rattle.std.proofs.Common.{◌∙◌}
use Rattle.string_pool.proofs.SpanSteps.{CountsSpans-next}
use Rattle.string_pool.proofs.spans.Spans.read.Goals as goal

pub loop-behind-preserved : goal.loop-behind-preserved
loop-behind-preserved c =
    CountsSpans-next c.loop-behind.count c.loop-behind.behind.now _ c.args.left.now c.loop-behind.invariant c.if-behind-lt-SIZE.false (λ end. c.if-u32_within.false (c.u32_within.ensures ∙ end)) c.split_at.ensures.back
