-- What the words of `values` ask, from what the places have to the answer. First come the words of files, then the faults of
-- inputs, and then the first word that asks for no resource.
use Rattle.std.specs.Prelude.{ℕ, List, Option, Result, Ok}
use Rattle.contract_words.specs.Faults.{◌>>=◌}
use Rattle.command_base.specs.declared.fault.ToolFault.{ToolFault}
use Rattle.command_base.specs.declared.status.Status.{Status}
use Rattle.command_base.specs.declared.stop.Stop.{Stop}
use Rattle.command_base.specs.CarriesOut.{CarriesOut}
use Rattle.command_base.specs.FileWords.{texts_of}
use Rattle.command_base.specs.Inputs.{Places}
use Rattle.command_base.specs.MapErr.{map_err}
use Rattle.command_base.specs.Output.{PrintsOneOf}
use Rattle.command_base.specs.StackBytes.{LayerBytes, stack_in}
use Rattle.command_base.specs.Stop.{StopOf}
use Rattle.command_base.specs.ToolFault.{fault_of_box}
use Rattle.command_base.specs.overlay_map.Layer.{LayerOf}
use Rattle.resource_text.specs.declared.line_form.LineForm.{LineForm}
use Rattle.stack_diff.specs.config_box.BoxJson.{box_in_by}
use Rattle.stack_diff.specs.config_box.config_record.locales.declared.locale_rule.LocaleRule.{LocaleRule}
use Rattle.stack_diff.specs.names.NamedIds.{packages_of}
use Rattle.stack_diff.specs.Stacks.{StacksOf, beside_nothing}
use Rattle.resource_tool.specs.declared.values.OpenedValues.{OpenedValues}
use Rattle.resource_tool.specs.declared.values.Values.{Values}
use Rattle.resource_tool.specs.BoxFiles.{AskedBoxBytes, asked_box_files}
use Rattle.resource_tool.specs.Diff.{OpenDiffOf, opened_asked}
use Rattle.resource_tool.specs.DiffInputs.{DiffInputs}
use Rattle.resource_tool.specs.ValuesOutput.{IsValuesOutput}

-- ---- the resources

-- a stack beside nothing, whose resources are told by its own packages
abbrev pub alone : List LayerOf → StacksOf
alone layers = beside_nothing layers (packages_of layers)

-- what layers and a box's text mean, whose locales are read by this rule, or the first fault; the layers are read first
unfoldable pub values_inputs_by : LocaleRule → List LayerBytes → List ℕ → Result DiffInputs ToolFault
values_inputs_by rule bytes box_json = do
  layers ← stack_in bytes
  sets ← map_err fault_of_box (box_in_by rule box_json)
  Ok (record { stacks = alone layers; sets = sets; rule = rule })

abbrev pub opened_values : OpenedValues → DiffInputs
opened_values opened = record { stacks = alone opened.stack; sets = opened.members; rule = opened.rule }

abbrev pub values_opened : LocaleRule → List LayerBytes → List ℕ → List (List ℕ) → Result OpenDiffOf StopOf
values_opened rule layers box_json words = opened_asked words (values_inputs_by rule layers box_json)

-- ---- the answer

-- from what was opened, if it is
abbrev pub ValuesOpened : {W : Type 0} → (W → Option (List ℕ)) → W → W → LineForm → ℕ → Result OpenDiffOf StopOf → Result Status Stop → Type 0
ValuesOpened contents old new form max_nodes opened result =
    CarriesOut (λ asked done. PrintsOneOf (IsValuesOutput form asked.pairs max_nodes) contents old new done (Ok asked.opened)) opened result

-- from the files, if they are read
abbrev pub TellsValuesOf : {W : Type 0} → (W → Option (List ℕ)) → W → W → Values → Result AskedBoxBytes StopOf → Result Status Stop → Type 0
TellsValuesOf contents old new values read result =
    ValuesOpened contents old new values.form values.max_nodes (read >>= λ files. values_opened values.locales files.layers files.box_json files.words) result

-- from what the places have
abbrev pub TellsValues : {W : Type 0} → (W → Option (List ℕ)) → W → W → Places → Values → Result Status Stop → Type 0
TellsValues contents old new places values result =
    TellsValuesOf contents old new values (asked_box_files places values.layers.now values.box_path.now (texts_of values.words)) result
