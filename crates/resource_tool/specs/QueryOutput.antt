-- What the command `query` prints, and what its words ask.
use Rattle.std.specs.Prelude.{ℕ, ◌++◌, Bool, false, List, Option, Result, Ok, if◌then◌else◌}
use Rattle.std.specs.List.{flat_map, list_any}
use Rattle.contract_words.specs.Faults.{◌>>=◌}
use Rattle.command_base.specs.json_input.Each.{each}
use Rattle.command_base.specs.answer_text.res_value.declared.res_id.ResId.{ResId}
use Rattle.command_base.specs.answer_text.config_record.locales.declared.locale_rule.LocaleRule.{LocaleRule}
use Rattle.command_base.specs.answer_text.config_record.locales.LocaleRule.{rule_of}
use Rattle.command_base.specs.answer_text.config_record.Device.{device_locale}
use Rattle.command_base.specs.overlay_map.Layer.{LayerOf}
use Rattle.command_base.specs.answer_text.reference_resolver.declared.end.End.{End}
use Rattle.command_base.specs.answer_text.reference_resolver.Ends.{references_followed, end_of}
use Rattle.command_base.specs.answer_text.QueryText.{query_line, set_aside_line}
use Rattle.resource_text.specs.EndJson.{ends_json}
use Rattle.resource_text.specs.EndNotation.{ends_notation}
use Rattle.resource_text.specs.declared.line_form.LineForm.{LineForm}
use Rattle.resource_text.specs.declared.line_form.LineForm.TheVariants.{Text, Json}
use Rattle.resource_text.specs.notation.declared.form.Form.TheVariants.{Android, Raw}
use Rattle.command_base.specs.declared.fault.ToolFault.{ToolFault}
use Rattle.command_base.specs.declared.status.Status.{Status}
use Rattle.command_base.specs.declared.status.Status.TheVariants.{Done, Negative}
use Rattle.command_base.specs.declared.stop.Stop.{Stop}
use Rattle.command_base.specs.CarriesOut.{CarriesOut, found_or_stop}
use Rattle.command_base.specs.DeviceText.{DeviceTextOf}
use Rattle.command_base.specs.DeviceFiles.{AskedBytes, asked_files, paths_asked}
use Rattle.command_base.specs.FileWords.{set_asked, texts_of}
use Rattle.command_base.specs.Inputs.{Places}
use Rattle.command_base.specs.Output.{Output, Prints}
use Rattle.command_base.specs.SetAside.{rows_set_aside}
use Rattle.command_base.specs.StackBytes.{LayerBytes}
use Rattle.command_base.specs.Stop.{StopOf}
use Rattle.command_base.specs.names.NamedIds.{ids_named}
use Rattle.resource_tool.specs.declared.query.Query.{Query}
use Rattle.resource_tool.specs.declared.query.OpenQuery.{OpenQuery}
use Rattle.resource_tool.specs.Opened.{OpenedOf, opened_in, opened_by}
use Rattle.resource_tool.specs.OpenedSeen.{opened_of}
use Rattle.resource_tool.specs.EndStatus.{is_unresolved}

-- where an id ends
abbrev pub end_for : List LayerOf → List ℕ → ResId → End
end_for stack device id = end_of stack references_followed id.0 device

-- at no value and no bag
abbrev pub is_unresolved_for : List LayerOf → List ℕ → ResId → Bool
is_unresolved_for stack device id = is_unresolved (end_for stack device id)

-- it is done where no id does
abbrev pub query_status : List LayerOf → List ℕ → List ResId → Status
query_status stack device ids = if list_any (is_unresolved_for stack device) ids then Negative else Done

-- the line of an id
abbrev pub line_of : List LayerOf → List ℕ → Bool → ResId → List ℕ
line_of stack device names id = query_line stack id.0 (end_for stack device id) names

-- a line for each id in the order asked, and one with the number of rows of all layers that are set aside
unfoldable pub query_text : List LayerOf → List ℕ → List ResId → Bool → List ℕ
query_text stack device ids names = flat_map (line_of stack device names) ids ++ set_aside_line (rows_set_aside (rule_of (device_locale device)) stack)

-- What `query` prints of layers and a device that were opened. Where names are asked for, they stand beside the ids.
abbrev pub query_answer : OpenedOf → List ResId → Bool → Output
query_answer asked ids names = record { status = query_status asked.stack asked.device ids; text = query_text asked.stack asked.device ids names }

-- What it prints in Android's notation, where the tables of the layers lie at these paths.
unfoldable pub notation_text : List LayerOf → List (List ℕ) → List ℕ → List ResId → List ℕ
notation_text stack paths device ids =
    ends_notation (record { stack = stack; paths = paths }) device ids ++ set_aside_line (rows_set_aside (rule_of (device_locale device)) stack)

abbrev pub query_notation : OpenedOf → List (List ℕ) → List ResId → Output
query_notation asked paths ids = record { status = query_status asked.stack asked.device ids; text = notation_text asked.stack paths asked.device ids }

-- What it prints as lines of JSON, where the tables of the layers lie at these paths.
abbrev pub query_json : OpenedOf → List (List ℕ) → List ResId → Output
query_json asked paths ids = record {
  status = query_status asked.stack asked.device ids;
  text = ends_json (record { stack = asked.stack; paths = paths }) asked.device ids;
}

-- What `query` prints of these layers, a device's text and these ids, without names.
unfoldable pub query_output : List LayerBytes → List ℕ → List ResId → Result Output ToolFault
query_output layers device_json ids = do
  asked ← opened_in layers device_json
  Ok (query_answer asked ids false)

-- ---- what its words ask

-- layers and a device that were opened, and the resources that are asked for
pub record OpenQueryOf : Type 0 where
  pub opened : OpenedOf
  pub ids : List ResId

abbrev pub query_seen : OpenQuery → OpenQueryOf
query_seen query = record { opened = opened_of query.opened; ids = query.ids.items }

-- First come the words of files, then the faults of inputs, and then the first word that asks for no resource.
unfoldable pub query_opened : LocaleRule → List LayerBytes → DeviceTextOf → List (List ℕ) → Result OpenQueryOf StopOf
query_opened rule layers device words = do
  sets ← each set_asked words
  opened ← opened_by rule layers device
  ids ← found_or_stop (ids_named opened.stack sets)
  Ok (record { opened = opened; ids = ids })

-- what is printed of them in this form, with or without names, where the tables of the layers lie at these paths
abbrev pub query_printed : LineForm → Bool → List (List ℕ) → OpenQueryOf → Output
query_printed (Text Raw) names paths asked = query_answer asked.opened asked.ids names
query_printed (Text Android) names paths asked = query_notation asked.opened paths asked.ids
query_printed Json names paths asked = query_json asked.opened paths asked.ids

-- the answer from the files, if they are read
abbrev pub QueriesFiles : {W : Type 0} → (W → Option (List ℕ)) → W → W → Query → Result AskedBytes StopOf → Result Status Stop → Type 0
QueriesFiles contents old new query read result =
    CarriesOut (λ asked done. Prints contents old new done (Ok (query_printed query.form query.names (paths_asked read) asked)))
    (read >>= λ files. query_opened query.locales files.layers files.device files.words) result

-- the answer from what the places have
abbrev pub Queries : {W : Type 0} → (W → Option (List ℕ)) → W → W → Places → Query → Result Status Stop → Type 0
Queries contents old new places query result =
    QueriesFiles contents old new query (asked_files places query.layers.now query.device.now (texts_of query.words)) result
