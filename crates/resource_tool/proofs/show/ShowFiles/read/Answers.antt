use Rattle.std.proofs.Common.{ℕ, List}
use Rattle.std.proofs.lemmas.Result.{err_from_is_err_and}
use Rattle.command_base.specs.FilesSeen.{layers_held}
use Rattle.command_base.specs.Inputs.{file_of, layers_of}
use Rattle.command_base.specs.StackBytes.{LayerBytes}
use Rattle.command_base.proofs.ReadInTurn.{first_stops, behind_stops, behind_read, last_read}
use Rattle.resource_tool.specs.Show.{ShowBytes, show_files}
use Rattle.resource_tool.proofs.show.ShowFiles.read.Goals as goal

pub returns-in_err-layers : goal.returns-in_err-layers
unfolding show_files
returns-in_err-layers g c =
    let p = err_from_is_err_and c.from_residual.result c.from_residual.ensures.1 in
    rw (p.1, p.2) (first_stops (g.I.Inputs.places c.args.inputs.now) (λ places. layers_of places c.args.layers_path.now) _ _ c.in_err-layers.ensures.layers)

pub returns-in_err-certificate : goal.returns-in_err-certificate
unfolding show_files
returns-in_err-certificate g c =
    let p = err_from_is_err_and c.from_residual-in_err-certificate.result c.from_residual-in_err-certificate.ensures.1 in
    let known = g.I.Inputs.places c.args.inputs.now in
    rw (p.1, p.2)
    (behind_stops known (λ places. layers_of places c.args.layers_path.now) _ _ _ c.in_ok-layers.ensures.layers
    (first_stops known (λ places. file_of places c.args.certificate_path.now) _ _ c.in_err-certificate.ensures))

pub returns : goal.returns
unfolding show_files
returns g c =
    let known = g.I.Inputs.places c.args.inputs.now in
    let layers : List LayerBytes = layers_held c.in_ok-layers.layers in
    let made : List ℕ → ShowBytes = λ certificate. record { layers = layers; certificate = certificate } in
    behind_read known (λ places. layers_of places c.args.layers_path.now) _ layers _ c.in_ok-layers.ensures.layers
    (last_read known (λ places. file_of places c.args.certificate_path.now) made c.in_ok-certificate.certificate.items c.in_ok-certificate.ensures)
