-- Why a text was not read, as the fault of a crate above.
use Rattle.json_input.specs.declared.value.JsonFault.{JsonFault}
use Rattle.json_input.specs.declared.value.JsonFault.TheVariants.{Syntax, OutOfMemory}

-- by the faults that it has for a text that is no JSON and for a want of memory
abbrev pub fault_of_text : {E : Type 0} → E → E → JsonFault → E
fault_of_text no_json no_memory Syntax = no_json
fault_of_text no_json no_memory OutOfMemory = no_memory
