use Rattle.std.proofs.Common.{map, Ok}
use Rattle.std.proofs.lemmas.Result.{err_from_is_err_and}
use Rattle.command_base.specs.Output.{PrintsOneOf}
use Rattle.command_base.proofs.CarriedOut.{read_stops, read_then}
use Rattle.resource_tool.specs.Diff.{DiffsFiles, OpenDiffOf, diff_files, diff_held, diff_opened}
use Rattle.resource_tool.specs.DiffOutput.{IsDiffOutput}
use Rattle.resource_tool.proofs.KeptStreams.{kept-still}
use Rattle.resource_tool.proofs.diff.Diff.answer.Goals as goal

pub returns-in_err-files-clause-answers : goal.returns-in_err-files-clause-answers
returns-in_err-files-clause-answers g c =
    let diff = c.args.self.now in
    let out = c.args.out.now in
    let p = err_from_is_err_and c.from_residual.result c.from_residual.ensures.1 in
    rw (p.1, p.2, ← c.deref.ensures.value) (
    read_stops (λ (asked : OpenDiffOf) done. PrintsOneOf (IsDiffOutput diff.form asked.pairs diff.max_nodes) g.W.Write.contents out out done (Ok asked.opened))
    (λ files. diff_opened diff.locales files.old files.new files.box_json files.words)
    (g.I.Inputs.places c.args.inputs.now) (λ places. diff_files places diff.old.now diff.new.now diff.box_path.now (map (λ word. word.now) c.deref.result.now))
    c.in_err-files.field-0.0 c.in_err-files.ensures
    )

pub returns-clause-answers : goal.returns-clause-answers
returns-clause-answers g c =
    let diff = c.args.self.now in
    rw (← c.deref.ensures.value) (
    read_then (λ read. DiffsFiles g.W.Write.contents c.args.out.now c.answer_of.new.out diff read c.answer_of.result)
    (g.I.Inputs.places c.args.inputs.now) (λ places. diff_files places diff.old.now diff.new.now diff.box_path.now (map (λ word. word.now) c.deref.result.now))
    (diff_held c.in_ok-files.files) c.in_ok-files.ensures c.answer_of.ensures.0
    )

pub returns-in_err-files-clause-unwritten : goal.returns-in_err-files-clause-unwritten
returns-in_err-files-clause-unwritten g c = kept-still c.args.out.now c.from_residual.result

pub returns-clause-unwritten : goal.returns-clause-unwritten
returns-clause-unwritten g c = c.answer_of.ensures.1
