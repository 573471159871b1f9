use Rattle.std.proofs.Common.{Some, refl}
use Rattle.std.proofs.lemmas.Result.{err_from_is_err_and}
use Rattle.command_base.proofs.StopSteps.{IfSome-all}
use Rattle.resource_tool.specs.command_base.FilesSeen.{layers_held}
use Rattle.resource_tool.specs.command_base.Inputs.{layers_on_side}
use Rattle.restool.proofs.LeftLines.{read-on-side}
use Rattle.restool.proofs.left.lines_of_side.Goals as goal

pub returns-in_err-files : goal.returns-in_err-files
returns-in_err-files g c =
    let p = err_from_is_err_and c.from_residual.result c.from_residual.ensures.1 in
    rw (p.1, p.2) c.in_err-files.ensures

pub returns-in_err-left_of : goal.returns-in_err-left_of
returns-in_err-left_of g c =
    let p = err_from_is_err_and c.from_residual-in_err-left_of.result c.from_residual-in_err-left_of.ensures.1 in
    rw (p.1, p.2) (IfSome-all (g.I.Inputs.places c.args.inputs.now) (λ places told. absurd (told refl)))

pub returns : goal.returns
returns g c =
    read-on-side (g.I.Inputs.places c.args.inputs.now) (Some c.args.side) c.args.word.now c.in_ok-left_of.field-0.items (layers_held c.in_ok-files.files) (λ places. layers_on_side c.args.side places c.args.word.now)
    c.in_ok-left_of.ensures c.in_ok-files.ensures
