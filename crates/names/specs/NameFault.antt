-- Why words ask for no resource.
use Rattle.std.specs.Prelude.{◌≡◌, ◌≢◌, ℕ, List, [], Result, Ok, Err}
use Rattle.std.specs.String.{string_bytes}
use Rattle.names.specs.declared.fault.NameFault.{NameFault}
use Rattle.names.specs.declared.fault.NameFault.TheVariants.{NoResource, TwoResources, OutOfMemory}

-- The first word that asks for none: nothing is there that it asks for, or it is a name of two packages, with a name for either.
pub data NameFaultOf : Type 0 where
  no_resource : List ℕ → NameFaultOf
  two_resources : List ℕ → NameFaultOf

abbrev pub name_fault_of : NameFault → NameFaultOf
name_fault_of (NoResource text) = no_resource (string_bytes text)
name_fault_of (TwoResources text) = two_resources (string_bytes text)
name_fault_of OutOfMemory = no_resource []

-- What was returned, seen by view, is what is meant. Want of memory leaves open what is meant.
abbrev pub GivesNamed : {X Y : Type 0} → (X → Y) → Result X NameFault → Result Y NameFaultOf → Type 0
GivesNamed view (Ok x) meant = meant ≡ Ok (view x)
GivesNamed view (Err fault) meant = fault ≢ OutOfMemory → meant ≡ Err (name_fault_of fault)
