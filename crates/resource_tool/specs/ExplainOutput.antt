-- What the command `explain` prints, and what its words ask.
use Rattle.std.specs.Prelude.{ℕ, Bool, false, List, Option, Result, Ok}
use Rattle.contract_words.specs.Faults.{◌>>=◌}
use Rattle.command_base.specs.overlay_map.Layer.{LayerOf}
use Rattle.command_base.specs.answer_text.reference_resolver.Ends.{references_followed, end_of}
use Rattle.command_base.specs.answer_text.ExplainText.{explain_text}
use Rattle.resource_text.specs.ExplainJson.{explain_json}
use Rattle.resource_text.specs.ExplainNotation.{explain_notation}
use Rattle.resource_text.specs.declared.line_form.LineForm.{LineForm}
use Rattle.resource_text.specs.declared.line_form.LineForm.TheVariants.{Text, Json}
use Rattle.resource_text.specs.notation.declared.form.Form.TheVariants.{Android, Raw}
use Rattle.command_base.specs.declared.fault.ToolFault.{ToolFault}
use Rattle.command_base.specs.declared.status.Status.{Status}
use Rattle.command_base.specs.declared.stop.Stop.{Stop}
use Rattle.command_base.specs.CarriesOut.{CarriesOut}
use Rattle.command_base.specs.DeviceFiles.{DeviceBytes, device_files, paths_read}
use Rattle.command_base.specs.Inputs.{Places}
use Rattle.command_base.specs.Output.{Output, Prints}
use Rattle.command_base.specs.StackBytes.{LayerBytes}
use Rattle.command_base.specs.Stop.{StopOf}
use Rattle.command_base.specs.names.Named.{named_of}
use Rattle.resource_tool.specs.declared.explain.Explain.{Explain}
use Rattle.resource_tool.specs.Opened.{OpenedOf, OpenIdOf, opened_in, id_opened}
use Rattle.resource_tool.specs.EndStatus.{status_of_end}

-- it is done where the end is not absent and not too long
abbrev pub explain_status : List LayerOf → List ℕ → ℕ → Status
explain_status stack device id = status_of_end (end_of stack references_followed id device)

-- What `explain` prints of layers and a device that were opened. Where names are asked for, they stand beside the ids.
abbrev pub explain_answer : OpenedOf → ℕ → Bool → Output
explain_answer asked id names = record { status = explain_status asked.stack asked.device id; text = explain_text asked.stack id asked.device names }

-- What it prints in Android's notation, where the tables of the layers lie at these paths; of all candidates, or of those that
-- match.
abbrev pub explain_in_notation : OpenedOf → List (List ℕ) → Bool → ℕ → Output
explain_in_notation asked paths all id = record {
  status = explain_status asked.stack asked.device id;
  text = explain_notation (record { stack = asked.stack; paths = paths }) all asked.device id;
}

-- What it prints as lines of JSON, where the tables of the layers lie at these paths.
abbrev pub explain_in_json : OpenedOf → List (List ℕ) → ℕ → Output
explain_in_json asked paths id = record {
  status = explain_status asked.stack asked.device id;
  text = explain_json (record { stack = asked.stack; paths = paths }) asked.device id;
}

-- What `explain` prints of these layers, a device's text and this id, without names.
unfoldable pub explain_output : List LayerBytes → List ℕ → ℕ → Result Output ToolFault
explain_output layers device_json id = do
  asked ← opened_in layers device_json
  Ok (explain_answer asked id false)

-- ---- what its words ask

-- what is printed in this form, where the tables of the layers lie at these paths
abbrev pub printed_in : LineForm → Explain → List (List ℕ) → OpenIdOf → Output
printed_in (Text Raw) explain paths asked = explain_answer asked.opened asked.id.0 explain.names
printed_in (Text Android) explain paths asked = explain_in_notation asked.opened paths explain.all asked.id.0
printed_in Json explain paths asked = explain_in_json asked.opened paths asked.id.0

abbrev pub explain_printed : Explain → List (List ℕ) → OpenIdOf → Output
explain_printed explain paths asked = printed_in explain.form explain paths asked

-- the answer from the files, if they are read
abbrev pub ExplainsFiles : {W : Type 0} → (W → Option (List ℕ)) → W → W → Explain → Result DeviceBytes StopOf → Result Status Stop → Type 0
ExplainsFiles contents old new explain read result =
    CarriesOut (λ asked done. Prints contents old new done (Ok (explain_printed explain (paths_read read) asked)))
    (read >>= λ files. id_opened explain.locales files.layers files.device (named_of explain.resource)) result

-- the answer from what the places have
abbrev pub Explains : {W : Type 0} → (W → Option (List ℕ)) → W → W → Places → Explain → Result Status Stop → Type 0
Explains contents old new places explain result =
    ExplainsFiles contents old new explain (device_files places explain.layers.now explain.device.now) result
