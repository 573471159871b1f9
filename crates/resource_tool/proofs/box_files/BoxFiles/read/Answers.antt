use Rattle.std.proofs.lemmas.Result.{err_from_is_err_and}
use Rattle.command_base.specs.Inputs.{file_of, layers_of}
use Rattle.command_base.proofs.ReadInTurn.{first_stops, behind_stops}
use Rattle.resource_tool.specs.BoxFiles.{box_files}
use Rattle.resource_tool.proofs.box_files.BoxFiles.read.Goals as goal

pub returns-in_err-layers : goal.returns-in_err-layers
unfolding box_files
returns-in_err-layers g c =
    let p = err_from_is_err_and c.from_residual.result c.from_residual.ensures.1 in
    let known = g.I.Inputs.places c.args.inputs.now in
    rw (p.1, p.2)
    (first_stops known (λ places. layers_of places c.args.layers_path.now) _ _ c.in_err-layers.ensures.layers)

pub returns-in_err-box_json : goal.returns-in_err-box_json
unfolding box_files
returns-in_err-box_json g c =
    let p = err_from_is_err_and c.from_residual-in_err-box_json.result c.from_residual-in_err-box_json.ensures.1 in
    let known = g.I.Inputs.places c.args.inputs.now in
    rw (p.1, p.2)
    (behind_stops known (λ places. layers_of places c.args.layers_path.now) _ _ _ c.in_ok-layers.ensures.layers
    (first_stops known (λ places. file_of places c.args.box_path.now) _ _ c.in_err-box_json.ensures))
