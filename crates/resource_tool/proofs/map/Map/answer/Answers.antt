use Rattle.std.proofs.Common.{Result}
use Rattle.std.proofs.lemmas.Result.{err_from_is_err_and}
use Rattle.resource_tool.specs.MapOutput.{MapBytes, PrintsBoth, map_files, map_held, map_printed}
use Rattle.command_base.specs.declared.status.Status.{Status}
use Rattle.command_base.specs.declared.fault.ToolFault.{ToolFault}
use Rattle.resource_tool.proofs.Answering.{answered_on_read, both_kept_by_done}
use Rattle.command_base.proofs.CarriedOut.{unread_stops}
use Rattle.resource_tool.proofs.map.Map.answer.Goals as goal

pub returns-in_err-files-clause-answers : goal.returns-in_err-files-clause-answers
returns-in_err-files-clause-answers g c =
    let command =
    λ (files : MapBytes) (done : Result Status ToolFault).
    PrintsBoth g.W.Write.contents g.E.Write.contents c.args.out.now c.args.out.now c.args.errors.now c.args.errors.now done (map_printed c.args.self.now.form files.target files.overlay) in
    let p = err_from_is_err_and c.from_residual.result c.from_residual.ensures.1 in
    rw (p.1, p.2)
    (unread_stops command (g.I.Inputs.places c.args.inputs.now) (λ places. map_files places c.args.self.now.target.now c.args.self.now.overlay.now) c.in_err-files.field-0.0 c.in_err-files.ensures)

pub returns-clause-answers : goal.returns-clause-answers
returns-clause-answers g c =
    let printed = rw (c.table-target.ensures, c.overlay-overlay.ensures) at c.print.ensures in
    answered_on_read
    (λ (files : MapBytes) (done : Result Status ToolFault).
    PrintsBoth g.W.Write.contents g.E.Write.contents c.args.out.now c.print.new.out c.args.errors.now c.print.new.errors done (map_printed c.args.self.now.form files.target files.overlay))
    (g.I.Inputs.places c.args.inputs.now) (λ places. map_files places c.args.self.now.target.now c.args.self.now.overlay.now) (map_held c.in_ok-files.files) c.print.result
    c.status_or_stop.result c.in_ok-files.ensures printed c.status_or_stop.ensures

pub returns-clause-unwritten : goal.returns-clause-unwritten
returns-clause-unwritten g c =
    (both_kept_by_done g.W.Write.contents g.E.Write.contents c.args.out.now c.print.new.out c.args.errors.now c.print.new.errors _ c.print.result c.status_or_stop.result
    c.print.ensures c.status_or_stop.ensures).0

pub returns-clause-unsaid : goal.returns-clause-unsaid
returns-clause-unsaid g c =
    (both_kept_by_done g.W.Write.contents g.E.Write.contents c.args.out.now c.print.new.out c.args.errors.now c.print.new.errors _ c.print.result c.status_or_stop.result
    c.print.ensures c.status_or_stop.ensures).1
