-- A fault, in place of one of several answers.
use Rattle.std.proofs.Common.{ℕ, List, Option, Ok, Err}
use Rattle.command_base.specs.declared.fault.ToolFault.{ToolFault}
use Rattle.command_base.specs.declared.fault.ToolFault.TheVariants.{Apk, Table, Layers, LayerApk, LayerTable, LayerMap, SideLayers, SideApk, SideTable, SideMap, Device, Box, Certificate, OutOfMemory, Write}
use Rattle.command_base.specs.Output.{Output, Prints, PrintsOneOf}

pub fault-allowed : {W X : Type 0} (Allows : X → Output → Type 0) (contents : W → Option (List ℕ)) (old new : W) (fault : ToolFault) (output : Output) (input : X)
    → Prints contents old new (Err fault) (Ok output) → PrintsOneOf Allows contents old new (Err fault) (Ok input)
fault-allowed Allows contents old new (Apk f) output input p = absurd (let e = p.0 in cc)
fault-allowed Allows contents old new (Table f) output input p = absurd (let e = p.0 in cc)
fault-allowed Allows contents old new (Layers f) output input p = absurd (let e = p.0 in cc)
fault-allowed Allows contents old new (LayerApk n f) output input p = absurd (let e = p.0 in cc)
fault-allowed Allows contents old new (LayerTable n f) output input p = absurd (let e = p.0 in cc)
fault-allowed Allows contents old new (LayerMap n f) output input p = absurd (let e = p.0 in cc)
fault-allowed Allows contents old new (SideLayers s f) output input p = absurd (let e = p.0 in cc)
fault-allowed Allows contents old new (SideApk s n f) output input p = absurd (let e = p.0 in cc)
fault-allowed Allows contents old new (SideTable s n f) output input p = absurd (let e = p.0 in cc)
fault-allowed Allows contents old new (SideMap s n f) output input p = absurd (let e = p.0 in cc)
fault-allowed Allows contents old new (Device f) output input p = absurd (let e = p.0 in cc)
fault-allowed Allows contents old new (Box f) output input p = absurd (let e = p.0 in cc)
fault-allowed Allows contents old new (Certificate f) output input p = absurd (let e = p.0 in cc)
fault-allowed Allows contents old new OutOfMemory output input p = p
fault-allowed Allows contents old new Write output input p = p
