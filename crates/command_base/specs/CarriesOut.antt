-- How a command comes from its words to its answer: what it reads, what that means, and what it does with it.
use Rattle.std.specs.Prelude.{◌≡◌, ◌≢◌, ◌⊎◌, List, Result, Ok, Err, IfErr}
use Rattle.command_base.specs.declared.fault.ToolFault.{ToolFault}
use Rattle.command_base.specs.declared.fault.ToolFault.TheVariants.{OutOfMemory, Write}
use Rattle.command_base.specs.declared.status.Status.{Status}
use Rattle.command_base.specs.declared.stop.Stop.{Stop}
use Rattle.command_base.specs.Inputs.{or_stop}
use Rattle.command_base.specs.Stop.{StopOf, no_resource, two_resources, stop_of, tool}
use Rattle.command_base.specs.overlay_map.Layer.{LayerOf}
use Rattle.names.specs.Named.{NamedOf}
use Rattle.names.specs.NameFault.{NameFaultOf}
use Rattle.names.specs.NameFault as names
use Rattle.names.specs.NamedIds as ids
use Rattle.answer_text.specs.res_value.declared.res_id.ResId.{ResId}

-- what was read of the inputs, or the fault of one of them
abbrev pub read_or_stop : {X : Type 0} → Result X ToolFault → Result X StopOf
read_or_stop read = or_stop (λ fault. tool fault) read

abbrev pub stop_of_fault : NameFaultOf → StopOf
stop_of_fault (names.no_resource name) = no_resource name
stop_of_fault (names.two_resources both) = two_resources both

-- what was found by names, or the first word that asks for no resource
abbrev pub found_or_stop : {X : Type 0} → Result X NameFaultOf → Result X StopOf
found_or_stop found = or_stop stop_of_fault found

abbrev pub id_named : List LayerOf → NamedOf → Result ResId StopOf
id_named stack resource = found_or_stop (ids.id_named stack resource)

-- A command is carried out on what is read: it is done as the command does it. A stop is why something is not read, or
-- the command's fault. Where memory ran out, nothing is said.
abbrev pub CarriesOut : {X : Type 0} → (X → Result Status ToolFault → Type 0) → Result X StopOf → Result Status Stop → Type 0
CarriesOut {X} Command meant (Ok status) = (read : X) × (meant ≡ Ok read) × Command read (Ok status)
CarriesOut {X} Command meant (Err stop) =
    stop_of stop ≢ tool OutOfMemory
    → (meant ≡ Err (stop_of stop))
    ⊎ ((read : X) × (fault : ToolFault) × (meant ≡ Ok read) × (stop_of stop ≡ tool fault) × Command read (Err fault))

-- A stream of a command, which was old and is new: where there is no answer it is as it was, unless a write failed.
abbrev pub IsKept : {S : Type 0} → S → S → Result Status Stop → Type 0
IsKept old new result = IfErr result (λ stop. stop_of stop ≢ tool Write → new ≡ old)
