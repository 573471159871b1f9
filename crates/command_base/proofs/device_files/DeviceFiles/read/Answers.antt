use Rattle.std.proofs.Common.{◌≡◌, ℕ, List, Result, Ok, ap, sym, ◌∙◌}
use Rattle.std.proofs.lemmas.Option.{IfSome_then}
use Rattle.std.proofs.lemmas.Result.{err_from_is_err_and}
use Rattle.contract_words.specs.Faults.{◌>>=◌}
use Rattle.command_base.specs.DeviceFiles.{DeviceBytes, device_files}
use Rattle.command_base.specs.DeviceText.{DeviceTextOf, device_text_at}
use Rattle.command_base.specs.Inputs.{Places, layers_of, paths_of_layers}
use Rattle.command_base.specs.StackBytes.{LayerBytes}
use Rattle.command_base.specs.Stop.{StopOf}
use Rattle.command_base.proofs.StopSteps.{IfSome-both}
use Rattle.command_base.proofs.device_files.DeviceFiles.read.Goals as goal

abbrev held : List LayerBytes → DeviceTextOf → List (List ℕ) → Result DeviceBytes StopOf
held layers device paths = Ok (record { layers = layers; paths = paths; device = device })

abbrev with_device : List LayerBytes → List (List ℕ) → Result DeviceTextOf StopOf → Result DeviceBytes StopOf
with_device layers paths device = device >>= λ device. held layers device paths

abbrev with_layers : Places → List ℕ → List ℕ → Result (List LayerBytes) StopOf → Result DeviceBytes StopOf
with_layers places path word layers = layers >>= λ layers. with_device layers (paths_of_layers places path) (device_text_at places word)

of-layers : (places : Places) (path word : List ℕ) (layers : Result (List LayerBytes) StopOf) → layers_of places path ≡ layers → device_files places path word ≡ with_layers places path word layers
unfolding device_files
of-layers places path word layers are = ap (with_layers places path word) are

pub returns-in_err-layers : goal.returns-in_err-layers
returns-in_err-layers g c =
    let p = err_from_is_err_and c.from_residual.result c.from_residual.ensures.1 in
    rw (p.1, p.2)
    (IfSome_then (g.I.Inputs.places c.args.inputs.now) c.in_err-layers.ensures.layers (λ places is other. of-layers places c.args.layers_path.now c.args.device.now _ (is other)))

pub returns-in_err-device : goal.returns-in_err-device
returns-in_err-device g c =
    let p = err_from_is_err_and c.from_residual-in_err-device.result c.from_residual-in_err-device.ensures.1 in
    rw (p.1, p.2)
    (IfSome-both (g.I.Inputs.places c.args.inputs.now) c.in_ok-layers.ensures.layers c.in_err-device.ensures
    (λ places layers is other.
    of-layers places c.args.layers_path.now c.args.device.now _ layers ∙ ap (with_device _ (paths_of_layers places c.args.layers_path.now)) (is other)))

pub returns : goal.returns
returns g c =
    let known = g.I.Inputs.places c.args.inputs.now in
    IfSome-both known c.in_ok-layers.ensures.paths
    (IfSome-both known c.in_ok-layers.ensures.layers c.in_ok-device.ensures
    (λ places layers device.
    of-layers places c.args.layers_path.now c.args.device.now _ layers ∙ ap (with_device _ (paths_of_layers places c.args.layers_path.now)) device))
    (λ places paths is. is ∙ ap (held _ _) (sym paths))
