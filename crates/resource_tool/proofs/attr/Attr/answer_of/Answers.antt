use Rattle.std.proofs.Common.{ℕ, List, Result, Ok, inl}
use Rattle.std.proofs.lemmas.Result.{err_from_is_err_and}
use Rattle.command_base.specs.DeviceFiles.{paths_asked}
use Rattle.command_base.specs.FilesSeen.{asked_held}
use Rattle.command_base.specs.Output.{Prints}
use Rattle.command_base.specs.declared.fault.ToolFault.{ToolFault}
use Rattle.command_base.specs.declared.status.Status.{Status}
use Rattle.resource_tool.specs.AttrOutput.{OpenAttrOf, attr_printed, attr_seen}
use Rattle.resource_tool.proofs.Answering.{carried_out, kept_by_done}
use Rattle.resource_tool.proofs.attr.Attr.answer_of.Given.{Over}
use Rattle.resource_tool.proofs.attr.Attr.answer_of.Goals as goal

-- the answer in its form
printed : (g : Over) (c : goal.After-drop-asked-2 g) → Prints g.W.Write.contents c.args.out.now c.print.new.out c.print.result
    (Ok (attr_printed c.args.self.now.form c.args.self.now.names c.args.self.now.force (paths_asked (Ok (asked_held c.args.files.now))) (attr_seen c.in_ok-asked.asked)))
printed g c = rw c.paths.ensures at c.print.ensures

pub returns-clause-answers : goal.returns-clause-answers
returns-clause-answers g c =
    let attr = c.args.self.now in
    let paths : List (List ℕ) = paths_asked (Ok (asked_held c.args.files.now)) in
    let meant = rw c.deref.ensures.value at c.in_ok-asked.ensures in
    carried_out
    (λ (asked : OpenAttrOf) (done : Result Status ToolFault). Prints g.W.Write.contents c.args.out.now c.print.new.out done (Ok (attr_printed attr.form attr.names attr.force paths asked)))
    _ (attr_seen c.in_ok-asked.asked) c.print.result c.status_or_stop.result meant (printed g c) c.status_or_stop.ensures

pub returns-clause-unwritten : goal.returns-clause-unwritten
returns-clause-unwritten g c =
    kept_by_done g.W.Write.contents c.args.out.now c.print.new.out _ c.print.result c.status_or_stop.result (printed g c) c.status_or_stop.ensures

pub returns-in_err-asked-clause-answers : goal.returns-in_err-asked-clause-answers
returns-in_err-asked-clause-answers g c =
    let stopped = rw c.deref.ensures.value at c.in_err-asked.ensures in
    let p = err_from_is_err_and c.from_residual.result c.from_residual.ensures.1 in
    rw (p.1, p.2) (λ told. inl (stopped told))
