use Rattle.std.proofs.Common.{◌∙◌}
use Rattle.std.proofs.lemmas.Result.{err_from_is_err_and}
use Rattle.command_base.proofs.MadeOverSteps.{over-left}
use Rattle.command_base.proofs.left_out.left_by_map.Goals as goal

pub returns-in_err-made : goal.returns-in_err-made
returns-in_err-made c =
    let p = err_from_is_err_and c.from_residual-in_err-made.result c.from_residual-in_err-made.ensures.1 in
    rw (p.1, p.2)
    (λ other. over-left c.args.side c.args.base c.args.target.now c.args.place c.args.overlay.now _ _ (c.deref.ensures.value ∙ c.in_ok-mark.ensures) (c.in_err-made.ensures other))

pub returns : goal.returns
returns c =
    over-left c.args.side c.args.base c.args.target.now c.args.place c.args.overlay.now _ _ (c.deref.ensures.value ∙ c.in_ok-mark.ensures) c.in_ok-made.ensures
