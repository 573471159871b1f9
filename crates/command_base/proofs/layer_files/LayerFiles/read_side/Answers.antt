use Rattle.std.proofs.Common.{Err, Result, List, ap, sym, ◌∙◌}
use Rattle.std.proofs.lemmas.Option.{IfSome_then}
use Rattle.command_base.specs.Inputs.{or_stop}
use Rattle.command_base.specs.StackBytes.{LayerBytes}
use Rattle.command_base.specs.Stop.{StopOf, stop_on_side}
use Rattle.command_base.proofs.layer_files.LayerFiles.read_side.Goals as goal

pub returns-in-Ok : goal.returns-in-Ok
returns-in-Ok g c = IfSome_then (g.I.Inputs.places c.args.inputs.now) c.in-Ok.ensures.layers (λ places is. ap (or_stop (stop_on_side c.args.side)) is)

pub returns-in-Err : goal.returns-in-Err
returns-in-Err g c =
    let stopped : StopOf → Result (List LayerBytes) StopOf = λ stop. Err stop in
    IfSome_then (g.I.Inputs.places c.args.inputs.now) c.in-Err.ensures.layers
    (λ places is other.
    ap (or_stop (stop_on_side c.args.side)) (is (λ want. other (c.on_side.ensures ∙ ap (stop_on_side c.args.side) want))) ∙ ap stopped (sym c.on_side.ensures))
