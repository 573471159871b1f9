use Rattle.std.proofs.Common.{Err, Result, ap, sym, ◌∙◌}
use Rattle.command_base.specs.overlay_map.Table.{TableOf}
use Rattle.command_base.specs.declared.fault.ToolFault.{ToolFault}
use Rattle.command_base.specs.ToolFault.{fault_of_layer_table}
use Rattle.command_base.specs.MapErr.{map_err}
use Rattle.command_base.proofs.stack.open_table.Goals as goal

pub returns-in-Err-clause-value : goal.returns-in-Err-clause-value
returns-in-Err-clause-value c =
    let stopped : ToolFault → Result TableOf ToolFault = λ fault. Err fault in
    let of_layer = fault_of_layer_table c.args.layer in
    λ other. ap (map_err of_layer) (c.in-Err.ensures (λ want. other (c.of_layer_table.ensures ∙ ap of_layer want))) ∙ ap stopped (sym c.of_layer_table.ensures)
