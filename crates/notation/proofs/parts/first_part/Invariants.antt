use Rattle.notation.proofs.PartSteps.{NoEndBefore}
use Rattle.notation.proofs.parts.first_part.Given as goal

-- no part has ended so far
abbrev pub invariant-bytes : goal.invariant-bytes
invariant-bytes l = NoEndBefore l.place l.line
