use Rattle.std.proofs.Common.{ℕ, List, Ok, Result}
use Rattle.std.proofs.lemmas.Result.{err_from_is_err_and}
use Rattle.resource_tool.specs.DeviceOutput.{as_output, device_form}
use Rattle.command_base.specs.declared.status.Status.{Status}
use Rattle.command_base.specs.declared.fault.ToolFault.{ToolFault}
use Rattle.command_base.specs.FilesSeen.{bytes_of}
use Rattle.command_base.specs.Output.{Prints}
use Rattle.command_base.specs.Inputs.{Places}
use Rattle.resource_tool.proofs.Answering.{answered_on_read, kept_by_done}
use Rattle.command_base.proofs.CarriedOut.{unread_stops}
use Rattle.resource_tool.proofs.device.DeviceForm.answer.Goals as goal

pub returns-in_err-text-clause-answers : goal.returns-in_err-text-clause-answers
returns-in_err-text-clause-answers g c =
    let command = λ (text : List ℕ) (done : Result Status ToolFault). Prints g.W.Write.contents c.args.out.now c.args.out.now done (Ok (as_output text)) in
    let read = λ (places : Places). device_form places c.args.self.now.locales c.args.self.now.config c.args.self.now.device.now in
    let p = err_from_is_err_and c.from_residual.result c.from_residual.ensures.1 in
    rw (p.1, p.2) (unread_stops command (g.I.Inputs.places c.args.inputs.now) read c.in_err-text.field-0.0 c.in_err-text.ensures)

pub returns-clause-answers : goal.returns-clause-answers
returns-clause-answers g c =
    let read = λ (places : Places). device_form places c.args.self.now.locales c.args.self.now.config c.args.self.now.device.now in
    answered_on_read
    (λ (text : List ℕ) (done : Result Status ToolFault). Prints g.W.Write.contents c.args.out.now c.print_text.new.out done (Ok (as_output text)))
    (g.I.Inputs.places c.args.inputs.now) read (bytes_of c.in_ok-text.text) c.print_text.result c.status_or_stop.result c.in_ok-text.ensures
    (rw c.deref.ensures.value at c.print_text.ensures) c.status_or_stop.ensures

pub returns-clause-unwritten : goal.returns-clause-unwritten
returns-clause-unwritten g c =
    kept_by_done g.W.Write.contents c.args.out.now c.print_text.new.out _ c.print_text.result c.status_or_stop.result c.print_text.ensures c.status_or_stop.ensures
