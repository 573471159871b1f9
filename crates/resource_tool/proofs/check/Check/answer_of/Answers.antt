use Rattle.std.proofs.Common.{Ok, Result, inl, map, string_bytes}
use Rattle.std.proofs.lemmas.Result.{err_from_is_err_and}
use Rattle.command_base.specs.declared.fault.ToolFault.{ToolFault}
use Rattle.command_base.specs.declared.status.Status.{Status}
use Rattle.resource_text.specs.cert_maker.res_value.Goal.{goal_seen}
use Rattle.resource_tool.proofs.Answering.{carried_out}
use Rattle.resource_tool.specs.Answered.{PrintsBothOneOf}
use Rattle.resource_tool.specs.Check.{OpenCheckOf, check_held, check_opened, check_seen, first_opened, telling_of}
use Rattle.resource_tool.specs.CheckOutput.{IsCheckAnswer}
use Rattle.resource_tool.specs.OpenedSeen.{opened_cert}
use Rattle.resource_tool.proofs.FirstChecked.{carried-by-first}
use Rattle.resource_tool.proofs.KeptStreams.{both-by-done, kept-still}
use Rattle.resource_tool.proofs.check.Check.answer_of.Goals as goal

pub returns-in_err-opened-clause-answers : goal.returns-in_err-opened-clause-answers
returns-in_err-opened-clause-answers g c =
    let check = c.args.self.now in
    let files = check_held c.args.files.now in
    let p = err_from_is_err_and c.from_residual.result c.from_residual.ensures.1 in
    carried-by-first (telling_of check files.paths) g.O.Write.contents g.E.Write.contents c.args.out.now c.args.out.now c.args.errors.now c.args.errors.now
    (check_opened check.locales files.layers files.box_json files.certificate files.words) c.from_residual.result (rw (p.1, p.2) (λ told. inl (c.in_err-opened.ensures told)))

pub returns-in_err-opened-clause-unwritten : goal.returns-in_err-opened-clause-unwritten
returns-in_err-opened-clause-unwritten g c = kept-still c.args.out.now c.from_residual.result

pub returns-in_err-opened-clause-unsaid : goal.returns-in_err-opened-clause-unsaid
returns-in_err-opened-clause-unsaid g c = kept-still c.args.errors.now c.from_residual.result

pub returns-clause-answers : goal.returns-clause-answers
returns-clause-answers g c =
    let check = c.args.self.now in
    let files = check_held c.args.files.now in
    let seen = check_seen c.in_ok-opened.field-0 in
    let opened = check_opened check.locales files.layers files.box_json files.certificate files.words in
    let told = rw (c.deref.ensures.value, c.paths-paths.ensures) at c.tell.ensures.both in
    carried-by-first (telling_of check files.paths) g.O.Write.contents g.E.Write.contents c.args.out.now c.tell.new.out c.args.errors.now c.tell.new.errors opened c.status_or_stop.result (
    carried_out
    (λ (asked : OpenCheckOf) (done : Result Status ToolFault).
    PrintsBothOneOf (IsCheckAnswer asked.goals (telling_of check files.paths)) g.O.Write.contents g.E.Write.contents c.args.out.now c.tell.new.out c.args.errors.now c.tell.new.errors done (Ok asked.opened))
    (first_opened opened) seen c.tell.result c.status_or_stop.result c.in_ok-opened.ensures told c.status_or_stop.ensures
    )

pub returns-clause-unwritten : goal.returns-clause-unwritten
returns-clause-unwritten g c =
    let tells = telling_of c.args.self.now (map string_bytes c.paths-paths.result.now) in (
    both-by-done (IsCheckAnswer (map goal_seen c.deref.result.now) tells) g.O.Write.contents g.E.Write.contents c.args.out.now c.tell.new.out c.args.errors.now c.tell.new.errors (Ok (opened_cert c.in_ok-opened.field-0.opened)) c.tell.result c.status_or_stop.result c.tell.ensures.both c.status_or_stop.ensures
    ).0

pub returns-clause-quiet : goal.returns-clause-quiet
returns-clause-quiet g c = c.tell.ensures.quiet

pub returns-clause-unsaid : goal.returns-clause-unsaid
returns-clause-unsaid g c =
    let tells = telling_of c.args.self.now (map string_bytes c.paths-paths.result.now) in (
    both-by-done (IsCheckAnswer (map goal_seen c.deref.result.now) tells) g.O.Write.contents g.E.Write.contents c.args.out.now c.tell.new.out c.args.errors.now c.tell.new.errors (Ok (opened_cert c.in_ok-opened.field-0.opened)) c.tell.result c.status_or_stop.result c.tell.ensures.both c.status_or_stop.ensures
    ).1
