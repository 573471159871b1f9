use Rattle.std.proofs.Common.{length}
use Rattle.string_pool.proofs.SpanSteps.{CountsSpans}
use Rattle.string_pool.proofs.spans.Spans.read.Given as goal

abbrev pub invariant-loop-behind : goal.invariant-loop-behind
invariant-loop-behind l = CountsSpans l.count l.behind l.left

abbrev pub decreases-loop-behind : goal.decreases-loop-behind
decreases-loop-behind l = length l.behind
