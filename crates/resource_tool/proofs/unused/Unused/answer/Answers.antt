use Rattle.std.proofs.Common.{map, Ok}
use Rattle.std.proofs.lemmas.Result.{err_from_is_err_and}
use Rattle.command_base.specs.Output.{PrintsOneOf}
use Rattle.command_base.proofs.CarriedOut.{read_stops, read_then}
use Rattle.resource_tool.specs.Unused.{IsUnusedOutput, OpenUnusedOf, TellsUnusedOf, unused_opened}
use Rattle.resource_tool.specs.BoxFiles.{asked_box_files, asked_box_held}
use Rattle.resource_tool.proofs.KeptStreams.{kept-still}
use Rattle.resource_tool.proofs.unused.Unused.answer.Goals as goal

pub returns-in_err-files-clause-answers : goal.returns-in_err-files-clause-answers
returns-in_err-files-clause-answers g c =
    let unused = c.args.self.now in
    let out = c.args.out.now in
    let p = err_from_is_err_and c.from_residual.result c.from_residual.ensures.1 in
    rw (p.1, p.2, ← c.deref.ensures.value) (
    read_stops (λ (asks : OpenUnusedOf) done. PrintsOneOf (IsUnusedOutput unused.form asks.paths asks.asked unused.max_nodes) g.W.Write.contents out out done (Ok asks.opened))
    (unused_opened unused.locales)
    (g.I.Inputs.places c.args.inputs.now) (λ places. asked_box_files places unused.layers.now unused.box_path.now (map (λ word. word.now) c.deref.result.now))
    c.in_err-files.field-0.0 c.in_err-files.ensures
    )

pub returns-clause-answers : goal.returns-clause-answers
returns-clause-answers g c =
    let unused = c.args.self.now in
    rw (← c.deref.ensures.value) (
    read_then (λ read. TellsUnusedOf g.W.Write.contents c.args.out.now c.answer_of.new.out unused read c.answer_of.result)
    (g.I.Inputs.places c.args.inputs.now) (λ places. asked_box_files places unused.layers.now unused.box_path.now (map (λ word. word.now) c.deref.result.now))
    (asked_box_held c.in_ok-files.files) c.in_ok-files.ensures c.answer_of.ensures.0
    )

pub returns-in_err-files-clause-unwritten : goal.returns-in_err-files-clause-unwritten
returns-in_err-files-clause-unwritten g c = kept-still c.args.out.now c.from_residual.result

pub returns-clause-unwritten : goal.returns-clause-unwritten
returns-clause-unwritten g c = c.answer_of.ensures.1
