-- What the command `map` prints, and what its words ask.
use Rattle.std.specs.Prelude.{◌≡◌, ℕ, not, List, [], Option, unwrap_or, Result, Ok, Err, IsOk}
use Rattle.std.specs.Io.KnownBytes.{Appends}
use Rattle.contract_words.specs.Faults.{◌>>=◌}
use Rattle.command_base.specs.answer_text.OnLine.{on_line}
use Rattle.command_base.specs.overlay_map.IdMap.{MapOf}
use Rattle.command_base.specs.answer_text.overlay_map.Table.{TableOf}
use Rattle.command_base.specs.declared.fault.ToolFault.{ToolFault}
use Rattle.command_base.specs.declared.fault.ToolFault.TheVariants.{OutOfMemory, Write}
use Rattle.command_base.specs.StackBytes.{table_of_layer}
use Rattle.command_base.specs.declared.status.Status.{Status}
use Rattle.command_base.specs.declared.stop.Stop.{Stop}
use Rattle.command_base.specs.CarriesOut.{CarriesOut}
use Rattle.command_base.specs.Inputs.{Places, layer_table_of}
use Rattle.command_base.specs.Output.{Output, negative_if}
use Rattle.command_base.specs.Stop.{StopOf}
use Rattle.resource_tool.specs.declared.map.Map.{Map}
use Rattle.resource_tool.specs.declared.map.MapFiles.{MapFiles}
use Rattle.command_base.specs.MadeMap.{made_map}
use Rattle.command_base.specs.MapText.{is_whole, lines_of_left, map_text}
use Rattle.resource_text.specs.declared.line_form.LineForm.{LineForm}
use Rattle.resource_text.specs.declared.line_form.LineForm.TheVariants.{Text, Json}
use Rattle.resource_tool.specs.MapJson.{map_json}

-- ---- the output, and what is said beside it

pub record MapOutput : Type 0 where
  pub output : Output
  pub lines : List ℕ

abbrev pub output_of_map : TableOf → MapOf → MapOutput
output_of_map overlay made = record {
  output = record { status = negative_if (not (is_whole overlay made)); text = map_text made };
  lines = on_line (lines_of_left overlay made);
}

-- What `map` prints of the bytes of a target and an overlay, which are layers 0 and 1. The target is read first.
unfoldable pub map_output : List ℕ → List ℕ → Result MapOutput ToolFault
map_output target_bytes overlay_bytes = do
  target ← table_of_layer 0 target_bytes
  overlay ← table_of_layer 1 overlay_bytes
  Ok (output_of_map overlay (made_map target overlay))

-- what is printed as lines of JSON
abbrev pub json_of_map : TableOf → MapOf → Output
json_of_map overlay made = record { status = negative_if (not (is_whole overlay made)); text = map_json overlay made }

unfoldable pub map_json_output : List ℕ → List ℕ → Result Output ToolFault
map_json_output target_bytes overlay_bytes = do
  target ← table_of_layer 0 target_bytes
  overlay ← table_of_layer 1 overlay_bytes
  Ok (json_of_map overlay (made_map target overlay))

-- an output, with nothing said beside it
abbrev pub alone : Result Output ToolFault → Result MapOutput ToolFault
alone (Ok output) = Ok (record { output = output; lines = [] })
alone (Err fault) = Err fault

-- what is printed in a form
abbrev pub map_printed : LineForm → List ℕ → List ℕ → Result MapOutput ToolFault
map_printed (Text form) target_bytes overlay_bytes = map_output target_bytes overlay_bytes
map_printed Json target_bytes overlay_bytes = alone (map_json_output target_bytes overlay_bytes)

-- A command answered what is meant: one writer got the text of that, another its lines, and neither anything else. Else both
-- are as they were, unless one of them failed; a writer fails only where the input is read.
abbrev pub PrintsBoth : {W V : Type 0} → (W → Option (List ℕ)) → (V → Option (List ℕ)) → W → W → V → V → Result Status ToolFault → Result MapOutput ToolFault → Type 0
PrintsBoth contents says old new before after (Ok status) meant =
    (text : List ℕ) × (lines : List ℕ) × (meant ≡ Ok (record { output = record { status = status; text = text }; lines = lines }))
    × Appends (contents old) (contents new) text × Appends (says before) (says after) lines
PrintsBoth contents says old new before after (Err OutOfMemory) meant = (new ≡ old) × (after ≡ before)
PrintsBoth contents says old new before after (Err Write) meant = IsOk meant
PrintsBoth contents says old new before after (Err fault) meant = (meant ≡ Err fault) × (new ≡ old) × (after ≡ before)

-- ---- what its words ask, from what the places have

pub record MapBytes : Type 0 where
  pub target : List ℕ
  pub overlay : List ℕ

abbrev pub overlay_held : MapFiles → List ℕ
overlay_held files = unwrap_or files.overlay files.target

abbrev pub map_held : MapFiles → MapBytes
map_held files = record { target = files.target; overlay = overlay_held files }

-- a table, and then that of an overlay; they are layers 0 and 1
unfoldable pub map_files : Places → List ℕ → List ℕ → Result MapBytes StopOf
map_files places target_path overlay_path = do
  target ← layer_table_of 0 places target_path
  overlay ← layer_table_of 1 places overlay_path
  Ok (record { target = target; overlay = overlay })

abbrev pub PrintsMap : {W V : Type 0} → (W → Option (List ℕ)) → (V → Option (List ℕ)) → W → W → V → V → Places → Map → Result Status Stop → Type 0
PrintsMap contents says old new before after places map result =
    CarriesOut (λ inputs done. PrintsBoth contents says old new before after done (map_printed map.form inputs.target inputs.overlay))
    (map_files places map.target.now map.overlay.now) result
