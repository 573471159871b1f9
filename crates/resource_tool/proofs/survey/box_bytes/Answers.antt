use Rattle.std.proofs.Common.{refl}
use Rattle.std.proofs.lemmas.Result.{err_from_is_err_and}
use Rattle.std.proofs.lemmas.Option.{IfSome_then}
use Rattle.resource_tool.proofs.survey.box_bytes.Goals as goal

pub returns-in_err-file_bytes-in-Some : goal.returns-in_err-file_bytes-in-Some
returns-in_err-file_bytes-in-Some g c =
    let p = err_from_is_err_and c.from_residual.result c.from_residual.ensures.1 in
    rw (p.1, p.2, c.in-Some.is) (IfSome_then (g.I.Inputs.places c.args.inputs.now) c.in_err-file_bytes-in-Some.ensures (λ places is told. rw (is told) refl))
