-- The name of a device's fault, and the coordinate that has it.
use Rattle.std.specs.Prelude.{ℕ, List, codes}
use Rattle.answer_text.specs.config_record.declared.fields.DeviceFault.{DeviceFault}
use Rattle.answer_text.specs.config_record.declared.fields.DeviceFault.TheVariants.{Syntax, Shape, FieldRange, RegionAlone, Density, OutOfMemory}
use Rattle.answer_text.specs.NamedText.{named_coord}

unfoldable pub device_fault_text : DeviceFault → List ℕ
device_fault_text Syntax = codes "Syntax"
device_fault_text Shape = codes "Shape"
device_fault_text (FieldRange coord) = named_coord (codes "FieldRange") coord
device_fault_text RegionAlone = codes "RegionAlone"
device_fault_text Density = codes "Density"
device_fault_text OutOfMemory = codes "OutOfMemory"
