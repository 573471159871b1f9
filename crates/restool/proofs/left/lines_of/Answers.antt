use Rattle.std.proofs.Common.{None, refl, sym}
use Rattle.std.proofs.lemmas.Result.{err_from_is_err_and}
use Rattle.command_base.proofs.StopSteps.{IfSome-all}
use Rattle.resource_tool.specs.command_base.FilesSeen.{layers_held}
use Rattle.resource_tool.specs.command_base.Inputs.{layers_of}
use Rattle.restool.proofs.LeftLines.{nothing-left, read-lines, unmade-lines}
use Rattle.restool.proofs.left.lines_of.Goals as goal

pub returns-in_err-files : goal.returns-in_err-files
returns-in_err-files g c =
    let p = err_from_is_err_and c.from_residual.result c.from_residual.ensures.1 in
    rw (p.1, p.2) c.in_err-files.ensures.layers

pub returns-in_err-left_of : goal.returns-in_err-left_of
returns-in_err-left_of g c =
    let p = err_from_is_err_and c.from_residual-in_err-left_of.result c.from_residual-in_err-left_of.ensures.1 in
    rw (p.1, p.2) (IfSome-all (g.I.Inputs.places c.args.inputs.now) (λ places told. absurd (told refl)))

pub returns-then-not-has_overlays : goal.returns-then-not-has_overlays
returns-then-not-has_overlays g c = (
  unmade-lines (g.I.Inputs.places c.args.inputs.now) None c.args.word.now c.new.result.items (λ places. layers_of places c.args.word.now) (sym c.if-not-has_overlays.ensures) c.new.ensures.items,
  λ off. c.new.ensures.items,
)

pub returns : goal.returns
returns g c =
    let layers = layers_held c.in_ok-files.files in (
      read-lines (g.I.Inputs.places c.args.inputs.now) None c.args.word.now c.in_ok-left_of.field-0.items layers (λ places. layers_of places c.args.word.now) c.in_ok-left_of.ensures c.in_ok-files.ensures.layers,
      nothing-left None c.args.word.now c.in_ok-left_of.field-0.items layers c.in_ok-left_of.ensures,
    )
