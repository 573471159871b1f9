use Rattle.std.proofs.Common.{map, None}
use Rattle.std.proofs.lemmas.Result.{err_from_is_err_and}
use Rattle.resource_tool.specs.res_value.Goal.{goal_seen}
use Rattle.resource_tool.specs.MakeOutput.{IsMakeOutput, IsMakeOutputAbout}
use Rattle.resource_tool.proofs.MakeSteps.{printed-about, without-goal}
use Rattle.resource_tool.proofs.Unprinted.{fault-allowed}
use Rattle.resource_tool.proofs.opened_box.OpenedBox.make.Goals as goal

pub returns-clause-about : goal.returns-clause-about
returns-clause-about g c =
    printed-about g.W.Write.contents c.args.out.now c.print_made.new.out _ c.args.max_nodes _ c.in_ok-status.status c.in_ok-made.made _ c.args.self.now.by_rule
    c.in_ok-status.ensures.output c.in_ok-status.ensures.reads_back c.in_ok-made.ensures.made c.in_ok-made.ensures.least c.in_ok-made.ensures.fits
    c.goal_of_made-about.ensures

pub returns-clause-prints : goal.returns-clause-prints
returns-clause-prints g c = without-goal g.W.Write.contents c.args.out.now c.print_made.new.out _ c.args.max_nodes _ _ _ (returns-clause-about g c)

pub returns-in_err-status-clause-about : goal.returns-in_err-status-clause-about
returns-in_err-status-clause-about g c =
    let p = err_from_is_err_and c.from_residual-in_err-status.result c.from_residual-in_err-status.ensures.1 in
    rw (p.1, p.2) (
    fault-allowed (IsMakeOutputAbout (map goal_seen c.args.goals.now) c.args.max_nodes None) g.W.Write.contents c.args.out.now c.print_made.new.out c.in_err-status.field-0.0 _ _
    c.in_err-status.ensures.output)

pub returns-in_err-status-clause-prints : goal.returns-in_err-status-clause-prints
returns-in_err-status-clause-prints g c =
    let p = err_from_is_err_and c.from_residual-in_err-status.result c.from_residual-in_err-status.ensures.1 in
    rw (p.1, p.2) (
    fault-allowed (IsMakeOutput (map goal_seen c.args.goals.now) c.args.max_nodes) g.W.Write.contents c.args.out.now c.print_made.new.out c.in_err-status.field-0.0 _ _
    c.in_err-status.ensures.output)
