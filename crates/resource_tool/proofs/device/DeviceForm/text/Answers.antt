use Rattle.std.proofs.Common.{refl}
use Rattle.std.proofs.lemmas.Option.{IfSome_then}
use Rattle.std.proofs.lemmas.Result.{err_from_is_err_and}
use Rattle.resource_tool.specs.DeviceOutput.{device_form}
use Rattle.resource_tool.proofs.device.DeviceForm.text.Goals as goal

pub returns-in_err-text : goal.returns-in_err-text
unfolding device_form
returns-in_err-text g c =
    let p = err_from_is_err_and c.from_residual.result c.from_residual.ensures.1 in
    rw (p.1, p.2) (IfSome_then (g.I.Inputs.places c.args.inputs.now) c.in_err-text.ensures (λ places is told. rw (is told) refl))

pub returns-in_err-device : goal.returns-in_err-device
unfolding device_form
returns-in_err-device g c =
    let p = err_from_is_err_and c.from_residual-in_err-device.result c.from_residual-in_err-device.ensures.1 in
    rw (p.1, p.2) (IfSome_then (g.I.Inputs.places c.args.inputs.now) c.in_ok-text.ensures (λ places is told. rw (is, c.in_err-device.ensures told) refl))

pub returns-then-self : goal.returns-then-self
unfolding device_form
returns-then-self g c = IfSome_then (g.I.Inputs.places c.args.inputs.now) c.in_ok-text.ensures (λ places is. rw (is, c.in_ok-device.ensures, c.if-self.true) c.config_text.ensures)

pub returns : goal.returns
unfolding device_form
returns g c = IfSome_then (g.I.Inputs.places c.args.inputs.now) c.in_ok-text.ensures (λ places is. rw (is, c.in_ok-device.ensures, c.if-self.false) c.json_text.ensures)
