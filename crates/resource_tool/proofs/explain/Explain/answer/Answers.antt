use Rattle.std.proofs.Common.{Ok}
use Rattle.std.proofs.lemmas.Result.{err_from_is_err_and}
use Rattle.command_base.specs.DeviceFiles.{device_files, paths_read}
use Rattle.command_base.specs.FilesSeen.{device_held}
use Rattle.command_base.specs.Output.{Prints}
use Rattle.command_base.specs.names.Named.{named_of}
use Rattle.command_base.proofs.CarriedOut.{read_then}
use Rattle.resource_tool.specs.ExplainOutput.{ExplainsFiles, explain_printed}
use Rattle.resource_tool.specs.Opened.{OpenIdOf, id_opened}
use Rattle.resource_tool.proofs.Answering.{stops_unread}
use Rattle.resource_tool.proofs.explain.Explain.answer.Goals as goal

pub returns-in_err-files-clause-answers : goal.returns-in_err-files-clause-answers
returns-in_err-files-clause-answers g c =
    let explain = c.args.self.now in
    let out = c.args.out.now in
    let p = err_from_is_err_and c.from_residual.result c.from_residual.ensures.1 in
    rw (p.1, p.2) (
    stops_unread (λ read (asked : OpenIdOf) done. Prints g.W.Write.contents out out done (Ok (explain_printed explain (paths_read read) asked)))
    (λ files. id_opened explain.locales files.layers files.device (named_of explain.resource))
    (g.I.Inputs.places c.args.inputs.now) (λ places. device_files places explain.layers.now explain.device.now)
    c.in_err-files.field-0.0 c.in_err-files.ensures
    )

pub returns-clause-answers : goal.returns-clause-answers
returns-clause-answers g c =
    let explain = c.args.self.now in
    read_then (λ read. ExplainsFiles g.W.Write.contents c.args.out.now c.answer_of.new.out explain read c.answer_of.result)
    (g.I.Inputs.places c.args.inputs.now) (λ places. device_files places explain.layers.now explain.device.now)
    (device_held c.in_ok-files.files) c.in_ok-files.ensures c.answer_of.ensures.answers
