use Rattle.std.proofs.Common.{inl}
use Rattle.std.proofs.lemmas.Result.{err_from_is_err_and}
use Rattle.resource_tool.proofs.Answering.{carried_out}
use Rattle.resource_tool.specs.BoxFiles.{asked_box_held}
use Rattle.resource_tool.specs.Make.{PrintsMade, looked_at, make_opened, make_seen}
use Rattle.resource_tool.proofs.FirstGoals.{carried-looked_at}
use Rattle.resource_tool.proofs.KeptStreams.{kept-still, made-by-done}
use Rattle.resource_tool.proofs.make.Make.answer_of.Goals as goal

pub returns-in_err-make-clause-answers : goal.returns-in_err-make-clause-answers
returns-in_err-make-clause-answers g c =
    let make = c.args.self.now in
    let files = asked_box_held c.args.files.now in
    let p = err_from_is_err_and c.from_residual.result c.from_residual.ensures.1 in
    carried-looked_at c.args.watch.is_terminal make.omit make.names make.max_nodes g.O.Write.contents g.E.Write.contents c.args.out.now c.args.out.now c.args.errors.now c.args.errors.now
    (make_opened make.locales files.layers files.box_json files.words) c.from_residual.result
    (rw (p.1, p.2) (λ told. inl (c.in_err-make.ensures told)))

pub returns-in_err-make-clause-unwritten : goal.returns-in_err-make-clause-unwritten
returns-in_err-make-clause-unwritten g c = kept-still c.args.out.now c.from_residual.result

pub returns-in_err-make-clause-unsaid : goal.returns-in_err-make-clause-unsaid
returns-in_err-make-clause-unsaid g c = λ no_terminal. kept-still c.args.errors.now c.from_residual.result

pub returns-clause-answers : goal.returns-clause-answers
returns-clause-answers g c =
    let make = c.args.self.now in
    let files = asked_box_held c.args.files.now in
    let opened = make_opened make.locales files.layers files.box_json files.words in
    carried-looked_at c.args.watch.is_terminal make.omit make.names make.max_nodes g.O.Write.contents g.E.Write.contents c.args.out.now c.answer.new.out c.args.errors.now c.answer.new.errors opened c.status_or_stop.result (
    carried_out
    (PrintsMade c.args.watch.is_terminal make.omit make.names make.max_nodes g.O.Write.contents g.E.Write.contents c.args.out.now c.answer.new.out c.args.errors.now c.answer.new.errors)
    (looked_at make.omit make.max_nodes opened) (make_seen c.in_ok-make.make) c.answer.result c.status_or_stop.result c.in_ok-make.ensures c.answer.ensures.made c.status_or_stop.ensures
    )

pub returns-clause-unwritten : goal.returns-clause-unwritten
returns-clause-unwritten g c =
    let make = c.args.self.now in (
    made-by-done c.args.watch.is_terminal make.omit make.names make.max_nodes g.O.Write.contents g.E.Write.contents c.args.out.now c.answer.new.out c.args.errors.now c.answer.new.errors
    (make_seen c.in_ok-make.make) c.answer.result c.status_or_stop.result c.answer.ensures.made c.status_or_stop.ensures
    ).0

pub returns-clause-quiet : goal.returns-clause-quiet
returns-clause-quiet g c = c.answer.ensures.quiet

pub returns-clause-unsaid : goal.returns-clause-unsaid
returns-clause-unsaid g c =
    let make = c.args.self.now in (
    made-by-done c.args.watch.is_terminal make.omit make.names make.max_nodes g.O.Write.contents g.E.Write.contents c.args.out.now c.answer.new.out c.args.errors.now c.answer.new.errors
    (make_seen c.in_ok-make.make) c.answer.result c.status_or_stop.result c.answer.ensures.made c.status_or_stop.ensures
    ).1
