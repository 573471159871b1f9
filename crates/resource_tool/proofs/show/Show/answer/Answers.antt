use Rattle.std.proofs.lemmas.Result.{err_from_is_err_and}
use Rattle.command_base.specs.Output.{Prints}
use Rattle.command_base.proofs.CarriedOut.{read_then, unread_stops}
use Rattle.resource_tool.specs.Show.{ShowBytes, ShowsFiles, show_files, show_held, shown_output}
use Rattle.resource_tool.proofs.show.Show.answer.Goals as goal

pub returns-in_err-files-clause-answers : goal.returns-in_err-files-clause-answers
returns-in_err-files-clause-answers g c =
    let show = c.args.self.now in
    let out = c.args.out.now in
    let p = err_from_is_err_and c.from_residual.result c.from_residual.ensures.1 in
    rw (p.1, p.2) (
    unread_stops (λ (files : ShowBytes) done. Prints g.W.Write.contents out out done (shown_output show.form show.pictured files))
    (g.I.Inputs.places c.args.inputs.now) (λ places. show_files places show.layers.now show.certificate.now) c.in_err-files.field-0.0 c.in_err-files.ensures)

pub returns-clause-answers : goal.returns-clause-answers
returns-clause-answers g c =
    let show = c.args.self.now in
    read_then (λ read. ShowsFiles g.W.Write.contents c.args.out.now c.answer_of.new.out show.form show.pictured read c.answer_of.result)
    (g.I.Inputs.places c.args.inputs.now) (λ places. show_files places show.layers.now show.certificate.now)
    (show_held c.in_ok-files.files) c.in_ok-files.ensures c.answer_of.ensures.0

pub returns-clause-unwritten : goal.returns-clause-unwritten
returns-clause-unwritten g c = c.answer_of.ensures.1
