-- Why the program stops, and what it says then.
use Rattle.std.specs.Prelude.{◌≡◌, ◌≢◌, ℕ, List, [], ◌∷◌, ◌++◌, codes, Result, Ok, Err, string_bytes}
use Rattle.command_base.specs.declared.fault.ToolFault.{ToolFault}
use Rattle.command_base.specs.declared.fault.ToolFault.TheVariants as faults
use Rattle.answer_text.specs.config_record.declared.coord.Coord.{Coord}
use Rattle.answer_text.specs.config_record.Coord.{name_of}
use Rattle.command_base.specs.FaultText.{fault_line}
use Rattle.command_base.specs.ToolFault.{fault_on_side}
use Rattle.command_base.specs.declared.side.Side.{Side}
use Rattle.names.specs.declared.fault.NameFault.{NameFault}
use Rattle.names.specs.declared.fault.NameFault.TheVariants as names
use Rattle.command_base.specs.declared.stop.Stop.{Stop}
use Rattle.command_base.specs.declared.stop.Stop.TheVariants as stops
use Rattle.command_base.specs.declared.exit_status.ExitStatus.{ExitStatus}
use Rattle.command_base.specs.declared.exit_status.ExitStatus.TheVariants.{Negative, BadCommandLine, Refused, Failed}
use Rattle.command_base.specs.ExitStatus.{after_fault}
use Rattle.command_base.specs.OneLine.{in_one_line}

-- why the program stops, without the memory that holds it
pub data StopOf : Type 0 where
  -- a file of words is not UTF-8
  not_text : StopOf
  -- the file of words at this path has none
  no_words : List ℕ → StopOf
  -- this word of a file asks for no resource, or for no goal where goals are asked
  bad_word : List ℕ → StopOf
  -- the file at this path was not read
  file : List ℕ → StopOf
  -- the same of a path that a list of layers names
  layer_file : List ℕ → StopOf
  -- this word, a name or for `diff` an id, stands for no resource of the base layers
  no_resource : List ℕ → StopOf
  -- this part of a device that is written as words is no qualifier, or of a kind that is there already
  device_part : List ℕ → StopOf
  -- what a device has at this coordinate no word of `am get-config` says
  no_word : Coord → StopOf
  -- a name that stands for resources of two packages, with a name for either
  two_resources : List ℕ → StopOf
  tool : ToolFault → StopOf

abbrev pub stop_of : Stop → StopOf
stop_of stops.NotText = not_text
stop_of (stops.NoWords path) = no_words path.now
stop_of (stops.WordOfFile word) = bad_word (string_bytes word)
stop_of (stops.File path) = file path.now
stop_of (stops.LayerFile path) = layer_file (string_bytes path)
stop_of (stops.NoResource name) = no_resource (string_bytes name)
stop_of (stops.DevicePart part) = device_part part.now
stop_of (stops.NoWord coord) = no_word coord
stop_of (stops.TwoResources names) = two_resources (string_bytes names)
stop_of (stops.Tool fault) = tool fault

-- the same where two stacks are compared: a fault of layers names the side
abbrev pub stop_on_side : Side → StopOf → StopOf
stop_on_side side (tool fault) = tool (fault_on_side side fault)
stop_on_side side stop = stop

-- where a word asks for no resource
abbrev pub stop_of_name : NameFault → Stop
stop_of_name (names.NoResource name) = stops.NoResource name
stop_of_name (names.TwoResources both) = stops.TwoResources both
stop_of_name names.OutOfMemory = stops.Tool faults.OutOfMemory

-- a call gave what is meant, seen by view, or stops as is meant, or memory ran out
abbrev pub GivesOrStops : {X Y : Type 0} → (X → Y) → Result X Stop → Result Y StopOf → Type 0
GivesOrStops view (Ok x) meant = meant ≡ Ok (view x)
GivesOrStops view (Err stop) meant = stop_of stop ≢ tool faults.OutOfMemory → meant ≡ Err (stop_of stop)

-- ---- what is said

-- the line that says why
abbrev pub stop_line : StopOf → List ℕ
stop_line not_text = codes "command: a word is not UTF-8" ++ 10 ∷ []
stop_line (no_words path) = codes "command: no words in " ++ path ++ 10 ∷ []
stop_line (bad_word word) = codes "command: bad id " ++ in_one_line word ++ 10 ∷ []
stop_line (file path) = codes "file: " ++ path ++ 10 ∷ []
stop_line (layer_file path) = codes "file: " ++ in_one_line path ++ 10 ∷ []
stop_line (no_resource name) = codes "no resource " ++ in_one_line name ++ 10 ∷ []
stop_line (device_part part) = codes "refused: device: Qualifier " ++ in_one_line part ++ 10 ∷ []
stop_line (no_word coord) = codes "no word " ++ name_of coord ++ 10 ∷ []
stop_line (two_resources names) = codes "two resources " ++ in_one_line names ++ 10 ∷ []
stop_line (tool fault) = fault_line fault

-- how the program ends where it stops
abbrev pub status_of_stop : StopOf → ExitStatus
status_of_stop not_text = BadCommandLine
status_of_stop (no_words path) = BadCommandLine
status_of_stop (bad_word word) = BadCommandLine
status_of_stop (file path) = Failed
status_of_stop (layer_file path) = Failed
status_of_stop (no_resource name) = Negative
status_of_stop (device_part part) = Refused
status_of_stop (no_word coord) = Negative
status_of_stop (two_resources names) = Negative
status_of_stop (tool fault) = after_fault fault
