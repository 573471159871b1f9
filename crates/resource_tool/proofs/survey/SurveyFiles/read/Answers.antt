use Rattle.std.proofs.Common.{◌≡◌, ℕ, List, Option, Result, Ok, option_map, ap, sym, ◌∙◌}
use Rattle.std.proofs.lemmas.Option.{IfSome_then}
use Rattle.std.proofs.lemmas.Result.{err_from_is_err_and}
use Rattle.contract_words.specs.Faults.{◌>>=◌}
use Rattle.command_base.specs.Inputs.{Places, file_of, layers_of, paths_of_layers, where_given}
use Rattle.command_base.specs.StackBytes.{LayerBytes}
use Rattle.command_base.specs.Stop.{StopOf}
use Rattle.command_base.proofs.StopSteps.{IfSome-both}
use Rattle.resource_tool.specs.Survey.{SurveyBytes, survey_files}
use Rattle.resource_tool.proofs.survey.SurveyFiles.read.Goals as goal

abbrev held : List LayerBytes → Option (List ℕ) → List (List ℕ) → Result SurveyBytes StopOf
held layers box_json paths = Ok (record { layers = layers; paths = paths; box_json = box_json })

abbrev with_box : List LayerBytes → List (List ℕ) → Result (Option (List ℕ)) StopOf → Result SurveyBytes StopOf
with_box layers paths box_json = box_json >>= λ box_json. held layers box_json paths

abbrev with_layers : Places → List ℕ → Option (List ℕ) → Result (List LayerBytes) StopOf → Result SurveyBytes StopOf
with_layers places path box_path layers = layers >>= λ layers. with_box layers (paths_of_layers places path) (where_given (file_of places) box_path)

of-layers : (places : Places) (path : List ℕ) (box_path : Option (List ℕ)) (layers : Result (List LayerBytes) StopOf) → layers_of places path ≡ layers
    → survey_files places path box_path ≡ with_layers places path box_path layers
unfolding survey_files
of-layers places path box_path layers are = ap (with_layers places path box_path) are

pub returns-in_err-layers : goal.returns-in_err-layers
returns-in_err-layers g c =
    let box_path = option_map (λ path. path.now) c.args.box_path in
    let p = err_from_is_err_and c.from_residual.result c.from_residual.ensures.1 in
    rw (p.1, p.2)
    (IfSome_then (g.I.Inputs.places c.args.inputs.now) c.in_err-layers.ensures.layers (λ places is other. of-layers places c.args.layers_path.now box_path _ (is other)))

pub returns-in_err-box_json : goal.returns-in_err-box_json
returns-in_err-box_json g c =
    let path = c.args.layers_path.now in
    let box_path = option_map (λ path. path.now) c.args.box_path in
    let p = err_from_is_err_and c.from_residual-in_err-box_json.result c.from_residual-in_err-box_json.ensures.1 in
    rw (p.1, p.2)
    (IfSome-both (g.I.Inputs.places c.args.inputs.now) c.in_ok-layers.ensures.layers c.in_err-box_json.ensures
    (λ places layers is other. of-layers places path box_path _ layers ∙ ap (with_box _ (paths_of_layers places path)) (is other)))

pub returns : goal.returns
returns g c =
    let path = c.args.layers_path.now in
    let box_path = option_map (λ path. path.now) c.args.box_path in
    let known = g.I.Inputs.places c.args.inputs.now in
    IfSome-both known c.in_ok-layers.ensures.paths
    (IfSome-both known c.in_ok-layers.ensures.layers c.in_ok-box_json.ensures
    (λ places layers is. of-layers places path box_path _ layers ∙ ap (with_box _ (paths_of_layers places path)) is))
    (λ places paths is. is ∙ ap (held _ _) (sym paths))
