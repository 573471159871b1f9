-- The line for a fault.
use Rattle.std.specs.Prelude.{ℕ, List, [], ◌∷◌, ◌++◌, codes, Some, None}
use Rattle.command_base.specs.declared.fault.ToolFault.{ToolFault}
use Rattle.command_base.specs.declared.fault.ToolFault.TheVariants.{Apk, Table, Layers, LayerApk, LayerTable, LayerMap, SideLayers, SideApk, SideTable, SideMap, Device, Box, Certificate, OutOfMemory, Write}
use Rattle.command_base.specs.LayerMark.{layer_mark, side_mark}
use Rattle.command_base.specs.ApkFaultText.{apk_fault_text}
use Rattle.command_base.specs.TableFaultText.{table_fault_text}
use Rattle.command_base.specs.LayersFaultText.{layers_fault_text}
use Rattle.command_base.specs.MapFaultText.{map_fault_text}
use Rattle.command_base.specs.DeviceFaultText.{device_fault_text}
use Rattle.command_base.specs.BoxFaultText.{box_fault_text}
use Rattle.command_base.specs.CertFaultText.{cert_fault_text}

-- of which layer the part is that is refused, and on which side where two stacks are compared; nothing where it is of none
unfoldable pub mark_text : ToolFault → List ℕ
mark_text (LayerApk layer _) = layer_mark None layer
mark_text (LayerTable layer _) = layer_mark None layer
mark_text (LayerMap layer _) = layer_mark None layer
mark_text (SideLayers side _) = side_mark (Some side)
mark_text (SideApk side layer _) = layer_mark (Some side) layer
mark_text (SideTable side layer _) = layer_mark (Some side) layer
mark_text (SideMap side layer _) = layer_mark (Some side) layer
mark_text _ = []

-- which part of the input is refused
abbrev pub part_text : ToolFault → List ℕ
part_text (Apk _) = codes "apk: "
part_text (Table _) = codes "table: "
part_text (Layers _) = codes "layers: "
part_text (LayerApk _ _) = codes "apk: "
part_text (LayerTable _ _) = codes "table: "
part_text (LayerMap _ _) = codes "map: "
part_text (SideLayers _ _) = codes "layers: "
part_text (SideApk _ _ _) = codes "apk: "
part_text (SideTable _ _ _) = codes "table: "
part_text (SideMap _ _ _) = codes "map: "
part_text (Device _) = codes "device: "
part_text (Box _) = codes "box: "
part_text (Certificate _) = codes "certificate: "
part_text OutOfMemory = []
part_text Write = []

-- why: the fault of that part
unfoldable pub reason_text : ToolFault → List ℕ
reason_text (Apk fault) = apk_fault_text fault
reason_text (Table fault) = table_fault_text fault
reason_text (Layers fault) = layers_fault_text fault
reason_text (LayerApk _ fault) = apk_fault_text fault
reason_text (LayerTable _ fault) = table_fault_text fault
reason_text (LayerMap _ fault) = map_fault_text fault
reason_text (SideLayers _ fault) = layers_fault_text fault
reason_text (SideApk _ _ fault) = apk_fault_text fault
reason_text (SideTable _ _ fault) = table_fault_text fault
reason_text (SideMap _ _ fault) = map_fault_text fault
reason_text (Device fault) = device_fault_text fault
reason_text (Box fault) = box_fault_text fault
reason_text (Certificate fault) = cert_fault_text fault
reason_text OutOfMemory = []
reason_text Write = []

-- `refused: PART: FAULT`
unfoldable pub refused_line : ToolFault → List ℕ
refused_line fault = codes "refused: " ++ mark_text fault ++ part_text fault ++ reason_text fault ++ 10 ∷ []

-- what is refused, or `out of memory`; no line for a writer that failed
unfoldable pub fault_line : ToolFault → List ℕ
fault_line Write = []
fault_line OutOfMemory = codes "out of memory" ++ 10 ∷ []
fault_line fault = refused_line fault
