use Rattle.std.proofs.Common.{map, Ok}
use Rattle.std.proofs.lemmas.Result.{err_from_is_err_and}
use Rattle.command_base.specs.DeviceFiles.{asked_files, paths_asked}
use Rattle.command_base.specs.FilesSeen.{asked_held}
use Rattle.command_base.specs.Output.{Prints}
use Rattle.command_base.proofs.CarriedOut.{read_then}
use Rattle.resource_tool.specs.AttrOutput.{OpenAttrOf, PrintsAttrFiles, attr_opened, attr_printed}
use Rattle.command_base.specs.names.Named.{named_of}
use Rattle.resource_tool.proofs.Answering.{stops_unread}
use Rattle.resource_tool.proofs.attr.Attr.answer.Goals as goal

pub returns-in_err-files-clause-answers : goal.returns-in_err-files-clause-answers
returns-in_err-files-clause-answers g c =
    let attr = c.args.self.now in
    let out = c.args.out.now in
    let p = err_from_is_err_and c.from_residual.result c.from_residual.ensures.1 in
    rw (p.1, p.2) (
    stops_unread (λ read (asked : OpenAttrOf) done. Prints g.W.Write.contents out out done (Ok (attr_printed attr.form attr.names attr.force (paths_asked read) asked)))
    (λ files. attr_opened attr.locales files.layers files.device (named_of attr.attr) files.words)
    (g.I.Inputs.places c.args.inputs.now) (λ places. asked_files places attr.layers.now attr.device.now (map (λ word. word.now) attr.styles.items))
    c.in_err-files.field-0.0 (rw c.deref.ensures.value at c.in_err-files.ensures)
    )

pub returns-clause-answers : goal.returns-clause-answers
returns-clause-answers g c =
    let attr = c.args.self.now in
    read_then (λ read. PrintsAttrFiles g.W.Write.contents c.args.out.now c.answer_of.new.out attr read c.answer_of.result)
    (g.I.Inputs.places c.args.inputs.now) (λ places. asked_files places attr.layers.now attr.device.now (map (λ word. word.now) attr.styles.items))
    (asked_held c.in_ok-files.files) (rw c.deref.ensures.value at c.in_ok-files.ensures) c.answer_of.ensures.answers
