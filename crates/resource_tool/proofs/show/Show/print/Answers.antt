use Rattle.std.proofs.Common.{refl}
use Rattle.std.proofs.lemmas.Result.{err_from_is_err_and}
use Rattle.resource_tool.proofs.Answering.{refused}
use Rattle.resource_tool.specs.ShowOutput.{show_output}
use Rattle.resource_tool.proofs.show.Show.print.Goals as goal

pub returns-in_err-opened : goal.returns-in_err-opened
unfolding show_output
returns-in_err-opened g c =
    let p = err_from_is_err_and c.from_residual.result c.from_residual.ensures.1 in
    rw (p.1, p.2) (refused g.W.Write.contents c.args.out.now _ _ (λ told. rw (c.in_err-opened.ensures.value told) refl) c.in_err-opened.ensures.of_input)
