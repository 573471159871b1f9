use Rattle.std.proofs.Common.{map, Ok}
use Rattle.std.proofs.lemmas.Result.{err_from_is_err_and}
use Rattle.command_base.proofs.CarriedOut.{read_then}
use Rattle.resource_tool.proofs.Answering.{stops_unread}
use Rattle.resource_tool.specs.Answered.{PrintsBothOneOf}
use Rattle.resource_tool.specs.Check.{ChecksFiles, OpenCheckOf, check_files, check_held, check_opened, paths_checked, telling_of}
use Rattle.resource_tool.specs.CheckOutput.{IsCheckAnswer}
use Rattle.resource_tool.proofs.check.Check.answer.Goals as goal

pub returns-in_err-files-clause-answers : goal.returns-in_err-files-clause-answers
returns-in_err-files-clause-answers g c =
    let check = c.args.self.now in
    let out = c.args.out.now in
    let errors = c.args.errors.now in
    let p = err_from_is_err_and c.from_residual.result c.from_residual.ensures.1 in
    rw (p.1, p.2, ← c.deref.ensures.value) (
    stops_unread
    (λ read (asked : OpenCheckOf) done. PrintsBothOneOf (IsCheckAnswer asked.goals (telling_of check (paths_checked read))) g.O.Write.contents g.E.Write.contents out out errors errors done (Ok asked.opened))
    (λ files. check_opened check.locales files.layers files.box_json files.certificate files.words)
    (g.I.Inputs.places c.args.inputs.now) (λ places. check_files places check.layers.now check.box_path.now check.certificate.now (map (λ word. word.now) c.deref.result.now))
    c.in_err-files.field-0.0 c.in_err-files.ensures
    )

pub returns-clause-answers : goal.returns-clause-answers
returns-clause-answers g c =
    let check = c.args.self.now in
    rw (← c.deref.ensures.value) (
    read_then (λ read. ChecksFiles g.O.Write.contents g.E.Write.contents c.args.out.now c.answer_of.new.out c.args.errors.now c.answer_of.new.errors check read c.answer_of.result)
    (g.I.Inputs.places c.args.inputs.now) (λ places. check_files places check.layers.now check.box_path.now check.certificate.now (map (λ word. word.now) c.deref.result.now))
    (check_held c.in_ok-files.files) c.in_ok-files.ensures c.answer_of.ensures.answers
    )
