use Rattle.std.proofs.Common.{refl}
use Rattle.std.proofs.lemmas.Result.{err_from_is_err_and}
use Rattle.resource_tool.proofs.Answering.{refused}
use Rattle.resource_tool.specs.TableOutput.{ids_output}
use Rattle.resource_tool.proofs.ids.ids_of_files.Goals as goal

pub returns-in_err-stack : goal.returns-in_err-stack
unfolding ids_output
returns-in_err-stack g c =
    let p = err_from_is_err_and c.from_residual-in_err-stack.result c.from_residual-in_err-stack.ensures.1 in
    rw (p.1, p.2) (refused g.W.Write.contents c.args.out.now _ _
    (λ told.
    let stopped = rw (c.deref.ensures.value, c.in_ok-layers.ensures) at (c.in_err-stack.ensures.value told) in rw stopped refl)
    c.in_err-stack.ensures.of_input)
