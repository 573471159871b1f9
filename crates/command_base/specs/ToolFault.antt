-- The faults of the parts of an input, as faults of the command. Want of memory is the command's own.
use Rattle.std.specs.Prelude.{ℕ}
use Rattle.answer_text.specs.config_record.declared.fields.DeviceFault.{DeviceFault}
use Rattle.answer_text.specs.config_record.declared.fields.DeviceFault.TheVariants as of_device
use Rattle.cert_tree.specs.config_box.declared.box_fault.BoxFault.{BoxFault}
use Rattle.cert_tree.specs.config_box.declared.box_fault.BoxFault.TheVariants as of_box
use Rattle.cert_tree.specs.declared.cert_fault.CertFault.{CertFault}
use Rattle.cert_tree.specs.declared.cert_fault.CertFault.TheVariants as of_certificate
use Rattle.answer_text.specs.type_chunks.type_entries.declared.fault.TableFault.{TableFault}
use Rattle.answer_text.specs.type_chunks.type_entries.declared.fault.TableFault.TheVariants as of_table
use Rattle.answer_text.specs.overlay_map.declared.map_fault.MapFault.{MapFault}
use Rattle.answer_text.specs.overlay_map.declared.map_fault.MapFault.TheVariants as of_map
use Rattle.answer_text.specs.overlay_map.declared.stack_fault.StackFault.{StackFault}
use Rattle.answer_text.specs.overlay_map.declared.stack_fault.StackFault.TheVariants as of_stack
use Rattle.command_base.specs.declared.layers_fault.LayersFault.{LayersFault}
use Rattle.command_base.specs.declared.layers_fault.LayersFault.TheVariants as of_layers
use Rattle.command_base.specs.declared.side.Side.{Side}
use Rattle.command_base.specs.declared.fault.ToolFault.{ToolFault}
use Rattle.command_base.specs.declared.fault.ToolFault.TheVariants as of_tool

-- of the table that a command reads alone
abbrev pub fault_of_table : TableFault → ToolFault
fault_of_table of_table.OutOfMemory = of_tool.OutOfMemory
fault_of_table fault = of_tool.Table fault

-- of the list of layers
abbrev pub fault_of_layers : LayersFault → ToolFault
fault_of_layers of_layers.OutOfMemory = of_tool.OutOfMemory
fault_of_layers fault = of_tool.Layers fault

-- of the table of a layer, which is named by its place from 0
abbrev pub fault_of_layer_table : ℕ → TableFault → ToolFault
fault_of_layer_table layer of_table.OutOfMemory = of_tool.OutOfMemory
fault_of_layer_table layer fault = of_tool.LayerTable layer fault

-- of the id map of an overlay
abbrev pub fault_of_layer_map : ℕ → MapFault → ToolFault
fault_of_layer_map layer of_map.OutOfMemory = of_tool.OutOfMemory
fault_of_layer_map layer fault = of_tool.LayerMap layer fault

-- of a layer that does not go onto a stack
abbrev pub fault_of_stack : StackFault → ToolFault
fault_of_stack of_stack.TooManyLayers = of_tool.Layers of_layers.TooManyLayers
fault_of_stack of_stack.OutOfMemory = of_tool.OutOfMemory

-- The same in one of two stacks that are compared: what is wrong with a list of layers, or with a layer, names the side.
abbrev pub fault_on_side : Side → ToolFault → ToolFault
fault_on_side side (of_tool.Layers fault) = of_tool.SideLayers side fault
fault_on_side side (of_tool.LayerApk layer fault) = of_tool.SideApk side layer fault
fault_on_side side (of_tool.LayerTable layer fault) = of_tool.SideTable side layer fault
fault_on_side side (of_tool.LayerMap layer fault) = of_tool.SideMap side layer fault
fault_on_side side fault = fault

-- of the device
abbrev pub fault_of_device : DeviceFault → ToolFault
fault_of_device of_device.OutOfMemory = of_tool.OutOfMemory
fault_of_device fault = of_tool.Device fault

-- of the box
abbrev pub fault_of_box : BoxFault → ToolFault
fault_of_box of_box.OutOfMemory = of_tool.OutOfMemory
fault_of_box fault = of_tool.Box fault

-- of the certificate
abbrev pub fault_of_certificate : CertFault → ToolFault
fault_of_certificate of_certificate.OutOfMemory = of_tool.OutOfMemory
fault_of_certificate fault = of_tool.Certificate fault
