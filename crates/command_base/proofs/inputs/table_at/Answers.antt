use Rattle.std.proofs.Common.{ℕ, List, Option, Result, Ok, Err, ap, sym, ◌∙◌}
use Rattle.std.specs.Option.{option_map_or}
use Rattle.std.proofs.lemmas.Option.{IfSome_then}
use Rattle.apk_member.specs.declared.fault.ApkFault.{ApkFault}
use Rattle.command_base.specs.Inputs.{or_stop, stop_at}
use Rattle.command_base.specs.Place.{PlaceOf}
use Rattle.command_base.specs.Stop.{StopOf, file, stop_of, tool}
use Rattle.command_base.specs.declared.fault.ToolFault.{ToolFault}
use Rattle.command_base.specs.declared.fault.ToolFault.TheVariants.{Apk, LayerApk}
use Rattle.command_base.proofs.ReadSteps.{of-table_bytes}
use Rattle.command_base.proofs.inputs.table_at.Goals as goal

-- the fault of an apk, which is a layer or stands alone
abbrev fault_of : Option ℕ → ApkFault → ToolFault
fault_of layer fault = option_map_or (λ place. LayerApk place fault) layer (Apk fault)

stopped : StopOf → Result (List ℕ) StopOf
stopped stop = Err stop

pub returns-in-Err-of : goal.returns-in-Err-of
unfolding stopped
returns-in-Err-of g c =
    let path = c.args.path.now in
    IfSome_then (g.I.Inputs.places c.args.inputs.now) c.in-Ok.ensures
    (λ places is other.
    of-table_bytes (fault_of c.args.layer) places path (Ok c.in-Ok.bytes.items) (ap (or_stop (stop_at (file path))) (ap (λ (place : PlaceOf). places place) (sym c.of_table.ensures) ∙ is))
    ∙ ap (or_stop (λ fault. tool (fault_of c.args.layer fault))) (sym c.of.ensures ∙ c.in-Err-of.is)
    ∙ ap (λ (fault : ToolFault). stopped (tool fault)) (sym c.fault_of_apk.ensures))

pub returns-in-Err : goal.returns-in-Err
unfolding stopped
returns-in-Err g c =
    let path = c.args.path.now in
    let stop = stop_at (file path) in
    IfSome_then (g.I.Inputs.places c.args.inputs.now) c.in-Err.ensures
    (λ places is other.
    of-table_bytes (fault_of c.args.layer) places path (stopped (stop_of c.stop_at.result))
    (ap (or_stop stop) (ap (λ (place : PlaceOf). places place) (sym c.of_table.ensures) ∙ is (λ want. other (c.stop_at.ensures ∙ ap stop want))) ∙ ap stopped (sym c.stop_at.ensures)))
