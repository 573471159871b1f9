-- What is said beside an answer of the maps that were made for its layers.
use Rattle.std.specs.Prelude.{◌≡◌, ◌≢◌, ◌⊎◌, ◌||◌, ◌++◌, ℕ, Bool, false, List, [], Option, Some, None, Result, Ok, Err, IfSome, OnOk, Vec, if◌then◌else◌}
use Rattle.std.specs.declared.alloc.Global.{Global}
use Rattle.std.specs.Io.KnownBytes.{Appends}
use Rattle.resource_tool.specs.command_base.answer_text.OnLine.{on_line}
use Rattle.resource_tool.specs.command_base.declared.fault.ToolFault.TheVariants.{OutOfMemory}
use Rattle.resource_tool.specs.command_base.declared.side.Side.{Side}
use Rattle.resource_tool.specs.command_base.declared.side.Side.TheVariants.{Old, New}
use Rattle.resource_tool.specs.command_base.declared.status.Status.{Status}
use Rattle.resource_tool.specs.command_base.declared.stop.Stop.{Stop}
use Rattle.resource_tool.specs.command_base.CarriesOut.{IsKept}
use Rattle.resource_tool.specs.command_base.Inputs.{Places, layers_of, layers_on_side}
use Rattle.resource_tool.specs.command_base.LeftOut.{has_overlays, left_in, lines_or_none}
use Rattle.resource_tool.specs.command_base.ListWord.{layers_in_word}
use Rattle.resource_tool.specs.command_base.StackBytes.{LayerBytes}
use Rattle.resource_tool.specs.command_base.Stop.{StopOf, stop_of, tool}
use Rattle.restool.specs.declared.left.LayerWords as lent

-- words that give layers
pub data LayerWordsOf : Type 0 where
  no_layers : LayerWordsOf
  layers : List ℕ → LayerWordsOf
  -- of two stacks that are compared
  both_layers : List ℕ → List ℕ → LayerWordsOf

-- whether maps are made for one of them
abbrev pub name_overlays : LayerWordsOf → Bool
name_overlays no_layers = false
name_overlays (layers word) = has_overlays word
name_overlays (both_layers old new) = has_overlays old || has_overlays new

-- what is said of what was read of a word; where it was not read, the command stops, and nothing is said
abbrev pub lines_of_read : Option Side → List ℕ → Result (List LayerBytes) StopOf → List ℕ
lines_of_read side word (Ok read) = lines_or_none (left_in side (layers_in_word word) read)
lines_of_read side word (Err stop) = []

abbrev pub said_of : Option Side → List ℕ → Result (List LayerBytes) StopOf → List ℕ
said_of side word read = if has_overlays word then lines_of_read side word read else []

-- what the made maps leave out, in lines, from what the places have
abbrev pub left_lines : Places → LayerWordsOf → List ℕ
left_lines places no_layers = []
left_lines places (layers word) = said_of None word (layers_of places word)
left_lines places (both_layers old new) = said_of (Some Old) old (layers_on_side Old places old) ++ said_of (Some New) new (layers_on_side New places new)

-- the layers of such words are not read, and this is why; of two the old ones come first
abbrev pub StopsAt : Places → LayerWordsOf → StopOf → Type 0
StopsAt places no_layers stop = ⊥
StopsAt places (layers word) stop = layers_of places word ≡ Err stop
StopsAt places (both_layers old new) stop =
    (layers_on_side Old places old ≡ Err stop)
    ⊎ ((read : List LayerBytes) × (layers_on_side Old places old ≡ Ok read) × (layers_on_side New places new ≡ Err stop))

-- Errors, which were before and are after, got these lines where there is an answer. Where there is none they are as they were,
-- unless a write failed, and so they are where no maps were made.
abbrev pub SaysLeft : {V : Type 0} → (V → Option (List ℕ)) → Option Places → V → V → LayerWordsOf → Result Status Stop → Type 0
SaysLeft says known before after words outcome =
    IfSome known (λ places. OnOk outcome (Appends (says before) (says after) (on_line (left_lines places words))))
    × IsKept before after outcome
    × (name_overlays words ≡ false → after ≡ before)

-- how contracts see such words
abbrev pub words_seen : lent.LayerWords → LayerWordsOf
words_seen lent.TheVariants.None = no_layers
words_seen (lent.TheVariants.One word) = layers word.now
words_seen (lent.TheVariants.Both old new) = both_layers old.now new.now

-- Where it is known what the places have: a call told what the made maps leave out, or that the layers are not read. Where no maps
-- are made it told nothing.
abbrev pub TellsLeft : Option Places → LayerWordsOf → Result (Vec ℕ Global) Stop → Type 0
TellsLeft known words (Ok lines) = IfSome known (λ places. lines.items ≡ left_lines places words) × (name_overlays words ≡ false → lines.items ≡ [])
TellsLeft known words (Err stop) = IfSome known (λ places. stop_of stop ≢ tool OutOfMemory → StopsAt places words (stop_of stop))

-- the same of one of two stacks
abbrev pub TellsLeftOnSide : Option Places → Side → List ℕ → Result (Vec ℕ Global) Stop → Type 0
TellsLeftOnSide known side word (Ok lines) =
    IfSome known (λ places. (read : List LayerBytes) × (layers_on_side side places word ≡ Ok read) × (lines.items ≡ said_of (Some side) word (Ok read)))
TellsLeftOnSide known side word (Err stop) = IfSome known (λ places. stop_of stop ≢ tool OutOfMemory → layers_on_side side places word ≡ Err (stop_of stop))
