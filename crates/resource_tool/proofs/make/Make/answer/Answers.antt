use Rattle.std.proofs.Common.{map}
use Rattle.std.proofs.lemmas.Result.{err_from_is_err_and}
use Rattle.command_base.proofs.CarriedOut.{read_stops, read_then}
use Rattle.resource_tool.specs.BoxFiles.{AskedBoxBytes, asked_box_files, asked_box_held}
use Rattle.resource_tool.specs.Make.{MakesFiles, PrintsMade, make_opened}
use Rattle.resource_tool.proofs.make.Make.answer.Goals as goal

pub returns-in_err-files-clause-answers : goal.returns-in_err-files-clause-answers
returns-in_err-files-clause-answers g c =
    let make = c.args.self.now in
    let p = err_from_is_err_and c.from_residual.result c.from_residual.ensures.1 in
    rw (p.1, p.2, ← c.deref.ensures.value) (
    read_stops
    (PrintsMade c.args.watch.is_terminal make.omit make.names make.max_nodes g.O.Write.contents g.E.Write.contents c.args.out.now c.args.out.now c.args.errors.now c.args.errors.now)
    (λ (files : AskedBoxBytes). make_opened make.locales files.layers files.box_json files.words)
    (g.I.Inputs.places c.args.inputs.now) (λ places. asked_box_files places make.layers.now make.box_path.now (map (λ word. word.now) c.deref.result.now))
    c.in_err-files.field-0.0 c.in_err-files.ensures
    )

pub returns-clause-answers : goal.returns-clause-answers
returns-clause-answers g c =
    let make = c.args.self.now in
    rw (← c.deref.ensures.value) (
    read_then (λ read. MakesFiles c.args.watch.is_terminal make g.O.Write.contents g.E.Write.contents
    c.args.out.now c.answer_of.new.out c.args.errors.now c.answer_of.new.errors read c.answer_of.result)
    (g.I.Inputs.places c.args.inputs.now) (λ places. asked_box_files places make.layers.now make.box_path.now (map (λ word. word.now) c.deref.result.now))
    (asked_box_held c.in_ok-files.files) c.in_ok-files.ensures c.answer_of.ensures.answers
    )
