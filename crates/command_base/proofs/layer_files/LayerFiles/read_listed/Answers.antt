use Rattle.std.proofs.Common.{◌≢◌, List, Option, String, map, refl, ap, sym, ◌∙◌}
use Rattle.std.specs.declared.alloc.Global.{Global}
use Rattle.std.proofs.lemmas.Option.{IfSome_then}
use Rattle.std.proofs.lemmas.Result.{err_from_is_err_and}
use Rattle.command_base.specs.Inputs.{paths_in_json, paths_listed}
use Rattle.command_base.specs.LayerList.{LayerPaths, layers_in}
use Rattle.command_base.specs.LayerListSeen.{paths_of}
use Rattle.command_base.specs.Stop.{tool}
use Rattle.command_base.specs.ToolFault.{fault_of_layers}
use Rattle.command_base.specs.declared.layers_fault.LayersFault.{LayersFault}
use Rattle.command_base.specs.declared.layers_fault.LayersFault.TheVariants.{OutOfMemory}
use Rattle.command_base.proofs.ReadSteps.{of-list, of-list_bytes, of-list_fault}
use Rattle.command_base.proofs.StopSteps.{IfSome-all, IfSome-both}
use Rattle.command_base.proofs.layer_files.LayerFiles.read_listed.Goals as goal

pub returns-in_err-json : goal.returns-in_err-json
returns-in_err-json g c =
    let p = err_from_is_err_and c.from_residual.result c.from_residual.ensures.1 in
    rw (p.1, p.2) (IfSome_then (g.I.Inputs.places c.args.inputs.now) c.in_err-json.ensures (λ places is. (λ other. of-list_bytes places c.args.path.now _ (is other), tt)))

pub returns-in_err-list : goal.returns-in_err-list
returns-in_err-list g c =
    let p = err_from_is_err_and c.from_residual-in_err-list.result c.from_residual-in_err-list.ensures.1 in
    let list = λ (told : c.in_err-list.field-0.0 ≢ OutOfMemory). ap layers_in (sym c.deref.ensures.value) ∙ c.in_err-list.ensures told in
    rw (p.1, p.2)
    (IfSome_then (g.I.Inputs.places c.args.inputs.now) c.in_ok-json.ensures
    (λ places is. (λ other. of-list_fault places c.args.path.now _ _ is (list (λ want. other (ap (λ (fault : LayersFault). tool (fault_of_layers fault)) want))), tt)))

pub returns-in_err-paths : goal.returns-in_err-paths
returns-in_err-paths g c =
    let p = err_from_is_err_and c.from_residual-in_err-paths.result c.from_residual-in_err-paths.ensures.1 in
    rw (p.1, p.2) (IfSome-all (g.I.Inputs.places c.args.inputs.now) (λ places. (λ other. absurd (other refl), tt)))

pub returns-in_err-files : goal.returns-in_err-files
returns-in_err-files g c =
    let p = err_from_is_err_and c.from_residual-in_err-files.result c.from_residual-in_err-files.ensures.1 in
    let list = ap layers_in (sym c.deref.ensures.value) ∙ c.in_ok-list.ensures in
    rw (p.1, p.2)
    (IfSome-both (g.I.Inputs.places c.args.inputs.now) c.in_ok-json.ensures c.in_err-files.ensures (λ places bytes is. (λ other. of-list places c.args.path.now _ _ _ bytes list (is other), tt)))

pub returns : goal.returns
returns g c =
    let list = ap layers_in (sym c.deref.ensures.value) ∙ c.in_ok-list.ensures in
    let paths = c.in_ok-paths.ensures ∙ ap (λ (layers : List (String Global × Option (String Global))). map (λ (paths : LayerPaths). paths.table) (map paths_of layers)) c.deref-2.ensures.value in
    IfSome-both (g.I.Inputs.places c.args.inputs.now) c.in_ok-json.ensures c.in_ok-files.ensures
    (λ places bytes is. (of-list places c.args.path.now _ _ _ bytes list is, paths ∙ sym (ap paths_in_json bytes ∙ ap paths_listed list)))
