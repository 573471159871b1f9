use Rattle.std.proofs.Common.{sym, ◌∙◌}
use Rattle.std.proofs.lemmas.Option.{IfSome_then}
use Rattle.std.proofs.lemmas.Result.{err_from_is_err_and}
use Rattle.command_base.proofs.ReadSteps.{of-device_bytes}
use Rattle.command_base.proofs.device_text.DeviceText.read.Goals as goal

pub returns-in_err-json : goal.returns-in_err-json
returns-in_err-json g c =
    let p = err_from_is_err_and c.from_residual.result c.from_residual.ensures.1 in
    rw (p.1, p.2)
    (IfSome_then (g.I.Inputs.places c.args.inputs.now) c.in_err-json.ensures
    (λ places is other. of-device_bytes places c.args.word.now _ (sym c.is_printed.ensures ∙ c.if-is_printed.false) (is other)))
