use Rattle.std.proofs.Common.{ℕ, ◌≢◌, ◌<◌, arith, sym, ◌∙◌}
use Rattle.string_pool.proofs.SpanSteps.{listed_spans-next}
use Rattle.string_pool.proofs.spans.SpansIterator.next.Goals as goal

pub invariant_of-self : goal.invariant_of-self
invariant_of-self c = grind arith

some_left : (n : ℕ) → n ≢ 0 → 0 < n
some_left n ne = omega arith

pub returns-clause-steps : goal.returns-clause-steps
returns-clause-steps c =
    sym c.self.view_is
    ∙ listed_spans-next c.self.inside.count c.self.inside.left.now c.split_at.result.1.now c.first_span-span.result (some_left c.self.inside.count c.if-self-eq0.false) c.first_span-span.ensures c.split_at.ensures.back
