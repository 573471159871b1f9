-- How contracts see what is wrong with a line.
use Rattle.std.specs.Prelude.{ℕ, List, Result, Ok, Err}
use Rattle.config_record.specs.declared.fields.DeviceFault.{DeviceFault}
use Rattle.notation.specs.declared.fault.ConfigWordFault.{ConfigWordFault}
use Rattle.notation.specs.declared.fault.ConfigWordFault.TheVariants as fault

pub data FaultOf : Type 0 where
  -- this part is no qualifier, or of a kind that is there already
  NoQualifier : List ℕ → FaultOf
  -- no device has what the parts say
  NoDevice : DeviceFault → FaultOf

-- by the bytes of the part, not where they lie
abbrev pub fault_of : ConfigWordFault → FaultOf
fault_of (fault.Qualifier part) = NoQualifier part.now
fault_of (fault.Device fault) = NoDevice fault

abbrev pub seen : {X Y : Type 0} → (X → Y) → Result X ConfigWordFault → Result Y FaultOf
seen view (Ok x) = Ok (view x)
seen view (Err fault) = Err (fault_of fault)
