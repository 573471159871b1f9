-- An answer that is not printed, and nothing is told; and one that is another answer too.
use Rattle.std.proofs.Common.{◌≡◌, ℕ, List, Option, Result, Ok, Err, refl}
use Rattle.command_base.specs.declared.fault.ToolFault.{ToolFault}
use Rattle.command_base.specs.declared.fault.ToolFault.TheVariants.{Apk, Table, Layers, LayerApk, LayerTable, LayerMap, SideLayers, SideApk, SideTable, SideMap, Device, Box, Certificate, OutOfMemory, Write}
use Rattle.command_base.specs.declared.status.Status.{Status}
use Rattle.command_base.specs.Output.{Output, PrintsOneOf}
use Rattle.resource_tool.specs.Answered.{PrintsBothOneOf}

pub nothing-told : {W V X : Type 0} (Allows : X → Output → Type 0) (Tells : X → Output → List ℕ → Type 0) (contents : W → Option (List ℕ)) (says : V → Option (List ℕ)) (old new : W) (shown : V)
    (fault : ToolFault) (meant : Result X ToolFault) → PrintsOneOf Allows contents old new (Err fault) meant → PrintsBothOneOf Tells contents says old new shown shown (Err fault) meant
nothing-told Allows Tells contents says old new shown (Apk f) meant p = (p.0, p.1, refl)
nothing-told Allows Tells contents says old new shown (Table f) meant p = (p.0, p.1, refl)
nothing-told Allows Tells contents says old new shown (Layers f) meant p = (p.0, p.1, refl)
nothing-told Allows Tells contents says old new shown (LayerApk n f) meant p = (p.0, p.1, refl)
nothing-told Allows Tells contents says old new shown (LayerTable n f) meant p = (p.0, p.1, refl)
nothing-told Allows Tells contents says old new shown (LayerMap n f) meant p = (p.0, p.1, refl)
nothing-told Allows Tells contents says old new shown (SideLayers s f) meant p = (p.0, p.1, refl)
nothing-told Allows Tells contents says old new shown (SideApk s n f) meant p = (p.0, p.1, refl)
nothing-told Allows Tells contents says old new shown (SideTable s n f) meant p = (p.0, p.1, refl)
nothing-told Allows Tells contents says old new shown (SideMap s n f) meant p = (p.0, p.1, refl)
nothing-told Allows Tells contents says old new shown (Device f) meant p = (p.0, p.1, refl)
nothing-told Allows Tells contents says old new shown (Box f) meant p = (p.0, p.1, refl)
nothing-told Allows Tells contents says old new shown (Certificate f) meant p = (p.0, p.1, refl)
nothing-told Allows Tells contents says old new shown OutOfMemory meant p = (p, refl)
nothing-told Allows Tells contents says old new shown Write meant p = p

-- where each answer that one word allows is allowed by another
pub told-otherwise : {W V X : Type 0} (Tells Others : X → Output → List ℕ → Type 0) (contents : W → Option (List ℕ)) (says : V → Option (List ℕ)) (old new : W) (before after : V)
    (result : Result Status ToolFault) (meant : Result X ToolFault) → ((input : X) (output : Output) (lines : List ℕ) → meant ≡ Ok input → Tells input output lines → Others input output lines)
    → PrintsBothOneOf Tells contents says old new before after result meant → PrintsBothOneOf Others contents says old new before after result meant
told-otherwise Tells Others contents says old new before after (Ok status) meant more (input, text, lines, is, allowed, put, told) =
    (input, text, lines, is, more input (record { status = status; text = text }) lines is allowed, put, told)
told-otherwise Tells Others contents says old new before after (Err (Apk f)) meant more p = p
told-otherwise Tells Others contents says old new before after (Err (Table f)) meant more p = p
told-otherwise Tells Others contents says old new before after (Err (Layers f)) meant more p = p
told-otherwise Tells Others contents says old new before after (Err (LayerApk n f)) meant more p = p
told-otherwise Tells Others contents says old new before after (Err (LayerTable n f)) meant more p = p
told-otherwise Tells Others contents says old new before after (Err (LayerMap n f)) meant more p = p
told-otherwise Tells Others contents says old new before after (Err (SideLayers s f)) meant more p = p
told-otherwise Tells Others contents says old new before after (Err (SideApk s n f)) meant more p = p
told-otherwise Tells Others contents says old new before after (Err (SideTable s n f)) meant more p = p
told-otherwise Tells Others contents says old new before after (Err (SideMap s n f)) meant more p = p
told-otherwise Tells Others contents says old new before after (Err (Device f)) meant more p = p
told-otherwise Tells Others contents says old new before after (Err (Box f)) meant more p = p
told-otherwise Tells Others contents says old new before after (Err (Certificate f)) meant more p = p
told-otherwise Tells Others contents says old new before after (Err OutOfMemory) meant more p = p
told-otherwise Tells Others contents says old new before after (Err Write) meant more p = p
