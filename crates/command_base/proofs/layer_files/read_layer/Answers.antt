use Rattle.std.proofs.Common.{String, Option, ap, string_bytes}
use Rattle.std.specs.Option.{option_map}
use Rattle.std.specs.declared.alloc.Global.{Global}
use Rattle.std.proofs.lemmas.Option.{IfSome_then}
use Rattle.std.proofs.lemmas.Result.{err_from_is_err_and}
use Rattle.command_base.specs.LayerListSeen.{paths_of}
use Rattle.command_base.proofs.ReadSteps.{of-listed_map, of-listed_table}
use Rattle.command_base.proofs.StopSteps.{IfSome-both}
use Rattle.command_base.proofs.layer_files.read_layer.Goals as goal

pub returns-in_err-table : goal.returns-in_err-table
returns-in_err-table g c =
    let p = err_from_is_err_and c.from_residual.result c.from_residual.ensures.1 in
    rw (p.1, p.2)
    (IfSome_then (g.I.Inputs.places c.args.inputs.now) c.in_err-table.ensures (λ places is other. of-listed_table places c.args.place (paths_of c.args.paths) _ (is other)))

pub returns-in_err-layer_file_bytes-in-Some : goal.returns-in_err-layer_file_bytes-in-Some
returns-in_err-layer_file_bytes-in-Some g c =
    let p = err_from_is_err_and c.from_residual-in_err-layer_file_bytes-in-Some.result c.from_residual-in_err-layer_file_bytes-in-Some.ensures.1 in
    rw (p.1, p.2)
    (IfSome-both (g.I.Inputs.places c.args.inputs.now) c.in_ok-table.ensures c.in_err-layer_file_bytes-in-Some.ensures
    (λ places table is other.
    of-listed_map places c.args.place (paths_of c.args.paths) _ _ _ table (ap (λ (path : Option (String Global)). option_map string_bytes path) c.in-Some.is) (is other)))
