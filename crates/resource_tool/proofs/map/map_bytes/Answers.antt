use Rattle.std.proofs.Common.{refl}
use Rattle.resource_tool.proofs.Answering.{both_refused}
use Rattle.resource_tool.specs.MapOutput.{map_output}
use Rattle.std.proofs.lemmas.Result.{on_ok_weaker, err_from_is_err_and}
use Rattle.command_base.proofs.MapReadSteps.{opened-reads_back}
use Rattle.resource_tool.proofs.map.map_bytes.Goals as goal

pub returns-clause-reads_back : goal.returns-clause-reads_back
returns-clause-reads_back g c =
    on_ok_weaker c.print_map.result
    (opened-reads_back c.args.target.now c.args.overlay.now c.in_ok-target.target c.in_ok-overlay.overlay c.in_ok-target.ensures.value c.in_ok-overlay.ensures.value)
    c.print_map.ensures.reads_back

pub returns-in_err-overlay-clause-prints : goal.returns-in_err-overlay-clause-prints
unfolding map_output
returns-in_err-overlay-clause-prints g c =
    let p = err_from_is_err_and c.from_residual-in_err-overlay.result c.from_residual-in_err-overlay.ensures.1 in
    rw (p.1, p.2)
    (both_refused g.W.Write.contents g.E.Write.contents c.args.out.now c.args.errors.now _ _
    (λ told. rw (c.in_ok-target.ensures.value, c.in_err-overlay.ensures.value told) refl) c.in_err-overlay.ensures.of_input)

pub returns-in_err-target-clause-prints : goal.returns-in_err-target-clause-prints
unfolding map_output
returns-in_err-target-clause-prints g c =
    let p = err_from_is_err_and c.from_residual.result c.from_residual.ensures.1 in
    rw (p.1, p.2)
    (both_refused g.W.Write.contents g.E.Write.contents c.args.out.now c.args.errors.now _ _ (λ told. rw (c.in_err-target.ensures.value told) refl) c.in_err-target.ensures.of_input)

pub returns-clause-prints : goal.returns-clause-prints
unfolding map_output
returns-clause-prints g c = rw (c.in_ok-target.ensures.value, c.in_ok-overlay.ensures.value) c.print_map.ensures.prints
