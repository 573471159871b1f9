use Rattle.std.proofs.lemmas.Result.{err_from_is_err_and}
use Rattle.notation.specs.Fault.{fault_of}
use Rattle.notation.proofs.SaidSteps.{goes_on, stops, ends}
use Rattle.notation.proofs.read.said_in.Goals as goal

pub returns-in_err-said-clause-value : goal.returns-in_err-said-clause-value
returns-in_err-said-clause-value c =
    let p = err_from_is_err_and c.from_residual.result c.from_residual.ensures.1 in
    rw (p.1, p.2) (stops c.args.rule c.parts.left c.in-Some.text _ c.first_part.result.1 c.parts.said (fault_of _) _ c.in-Some.is c.first_part.ensures.parts c.in_err-said.ensures.value c.parts.invariant.value)

pub parts-preserved : goal.parts-preserved
parts-preserved c =
    record {
      value =
          goes_on c.args.rule c.parts.left c.in-Some.text _ c.first_part.result.1 c.parts.said c.in_ok-said.said _ c.in-Some.is c.first_part.ensures.parts c.in_ok-said.ensures.value c.parts.invariant.value;
      given = c.in_ok-said.ensures.given;
    }

pub returns-clause-value : goal.returns-clause-value
returns-clause-value c = ends c.args.rule c.parts.left c.parts.said _ c.in_default.is c.parts.invariant.value
