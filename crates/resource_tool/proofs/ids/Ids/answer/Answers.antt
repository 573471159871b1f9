use Rattle.std.proofs.Common.{List, Result}
use Rattle.std.proofs.lemmas.Result.{err_from_is_err_and}
use Rattle.command_base.specs.declared.status.Status.{Status}
use Rattle.command_base.specs.declared.fault.ToolFault.{ToolFault}
use Rattle.command_base.specs.FilesSeen.{layers_held}
use Rattle.command_base.specs.Inputs.{layers_of}
use Rattle.command_base.specs.Output.{Prints}
use Rattle.command_base.specs.StackBytes.{LayerBytes}
use Rattle.resource_tool.specs.TableOutput.{ids_output}
use Rattle.resource_tool.proofs.Answering.{answered_on_read, kept_by_done}
use Rattle.command_base.proofs.CarriedOut.{unread_stops}
use Rattle.resource_tool.proofs.ids.Ids.answer.Goals as goal

pub returns-in_err-files-clause-answers : goal.returns-in_err-files-clause-answers
returns-in_err-files-clause-answers g c =
    let out = c.args.out.now in
    let p = err_from_is_err_and c.from_residual.result c.from_residual.ensures.1 in
    rw (p.1, p.2) (
    unread_stops (λ (layers : List LayerBytes) done. Prints g.W.Write.contents out out done (ids_output layers))
    (g.I.Inputs.places c.args.inputs.now) (λ places. layers_of places c.args.self.now.layers.now) c.in_err-files.field-0.0 c.in_err-files.ensures.layers)

pub returns-clause-answers : goal.returns-clause-answers
returns-clause-answers g c =
    answered_on_read
    (λ (layers : List LayerBytes) (done : Result Status ToolFault). Prints g.W.Write.contents c.args.out.now c.ids_of_files.new.out done (ids_output layers))
    (g.I.Inputs.places c.args.inputs.now) (λ places. layers_of places c.args.self.now.layers.now) (layers_held c.in_ok-files.files) c.ids_of_files.result c.status_or_stop.result
    c.in_ok-files.ensures.layers c.ids_of_files.ensures c.status_or_stop.ensures

pub returns-clause-unwritten : goal.returns-clause-unwritten
returns-clause-unwritten g c =
    kept_by_done g.W.Write.contents c.args.out.now c.ids_of_files.new.out _ c.ids_of_files.result c.status_or_stop.result c.ids_of_files.ensures c.status_or_stop.ensures
