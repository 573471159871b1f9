use Rattle.std.proofs.Common.{Err, List, Result, ap, sym, ◌∙◌}
use Rattle.command_base.specs.overlay_map.Layer.{LayerOf}
use Rattle.command_base.specs.declared.fault.ToolFault.{ToolFault}
use Rattle.command_base.specs.ToolFault.{fault_on_side}
use Rattle.command_base.specs.MapErr.{map_err}
use Rattle.command_base.proofs.stack.open_side.Goals as goal

pub returns-in-Err-clause-value : goal.returns-in-Err-clause-value
returns-in-Err-clause-value c =
    let stopped : ToolFault → Result (List LayerOf) ToolFault = λ fault. Err fault in
    let on_side = fault_on_side c.args.side in
    λ other. ap (map_err on_side) (c.in-Err.ensures.value (λ want. other (c.on_side.ensures ∙ ap on_side want))) ∙ ap stopped (sym c.on_side.ensures)
