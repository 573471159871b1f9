use Rattle.std.proofs.Common.{ℕ, List, Result}
use Rattle.std.proofs.lemmas.Result.{err_from_is_err_and}
use Rattle.command_base.specs.declared.status.Status.{Status}
use Rattle.command_base.specs.declared.fault.ToolFault.{ToolFault}
use Rattle.command_base.specs.Inputs.{table_of}
use Rattle.command_base.specs.Output.{Prints}
use Rattle.resource_tool.specs.TableOutput.{rows_printed}
use Rattle.resource_tool.proofs.Answering.{answered_on_read, kept_by_done}
use Rattle.command_base.proofs.CarriedOut.{unread_stops}
use Rattle.resource_tool.proofs.rows.Rows.answer.Goals as goal

pub returns-in_err-file-clause-answers : goal.returns-in_err-file-clause-answers
returns-in_err-file-clause-answers g c =
    let out = c.args.out.now in
    let p = err_from_is_err_and c.from_residual.result c.from_residual.ensures.1 in
    rw (p.1, p.2) (
    unread_stops (λ (table : List ℕ) done. Prints g.W.Write.contents out out done (rows_printed c.args.self.now.android table))
    (g.I.Inputs.places c.args.inputs.now) (λ places. table_of places c.args.self.now.table.now) c.in_err-file.field-0.0 c.in_err-file.ensures)

pub returns-clause-answers : goal.returns-clause-answers
returns-clause-answers g c =
    answered_on_read
    (λ (table : List ℕ) (done : Result Status ToolFault). Prints g.W.Write.contents c.args.out.now c.rows_printed.new.out done (rows_printed c.args.self.now.android table))
    (g.I.Inputs.places c.args.inputs.now) (λ places. table_of places c.args.self.now.table.now) _ c.rows_printed.result c.status_or_stop.result c.in_ok-file.ensures
    (rw c.table.ensures at c.rows_printed.ensures) c.status_or_stop.ensures

pub returns-clause-unwritten : goal.returns-clause-unwritten
returns-clause-unwritten g c =
    kept_by_done g.W.Write.contents c.args.out.now c.rows_printed.new.out _ c.rows_printed.result c.status_or_stop.result c.rows_printed.ensures c.status_or_stop.ensures
