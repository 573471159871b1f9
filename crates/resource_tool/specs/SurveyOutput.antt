-- What the command `survey` prints.
use Rattle.std.specs.Prelude.{ℕ, ◌||◌, Bool, List, ◌++◌, Option, Some, None, is_some, Result, Ok, Err}
use Rattle.std.specs.List.{flat_map, list_any, enumerate_from}
use Rattle.contract_words.specs.Faults.{◌>>=◌}
use Rattle.command_base.specs.cert_tree.config_box.config_record.Coord.{all_coords}
use Rattle.command_base.specs.cert_tree.config_box.config_record.locales.declared.locale_rule.LocaleRule.{LocaleRule}
use Rattle.command_base.specs.cert_tree.box_answers.NumberSet.{SetOf}
use Rattle.command_base.specs.cert_tree.config_box.BoxJson.{box_in_by}
use Rattle.command_base.specs.overlay_map.Layer.{LayerOf}
use Rattle.command_base.specs.declared.fault.ToolFault.{ToolFault}
use Rattle.command_base.specs.declared.fault.ToolFault.TheVariants.{LayerTable}
use Rattle.command_base.specs.ToolFault.{fault_of_box}
use Rattle.command_base.specs.Output.{Output, negative_if}
use Rattle.command_base.specs.StackBytes.{LayerBytes, stack_in}
use Rattle.command_base.specs.MapErr.{map_err}
use Rattle.command_base.specs.names.Shared.{shared_ids, shared_of}
use Rattle.resource_tool.specs.LayerNotes.{layer_differs}
use Rattle.resource_tool.specs.Qualifiers.{rows_in_stack, numbers_at, spread_of}
use Rattle.resource_tool.specs.BoxGaps.{locales_of_box, lacks}
use Rattle.resource_tool.specs.SurveyForm.{FormOf, shared_in, qualifier_in, lacking_in}
use Rattle.resource_tool.specs.LayersText.{layers_text}
use Rattle.resource_tool.specs.Refused.{refused_output}

-- ---- the inputs

-- layers, and the sets of a box where there is one; and the rule by which locales are compared
pub record SurveyInputs : Type 0 where
  pub stack : List LayerOf
  pub sets : Option (List SetOf)
  pub rule : LocaleRule

abbrev pub sets_in : LocaleRule → Option (List ℕ) → Result (Option (List SetOf)) ToolFault
sets_in rule None = Ok None
sets_in rule (Some json) = map_err fault_of_box (box_in_by rule json) >>= λ sets. Ok (Some sets)

-- What these layers and a box's text mean, whose locales are read by this rule, or the first fault. The layers are read before
-- the box.
unfoldable pub survey_inputs_by : LocaleRule → List LayerBytes → Option (List ℕ) → Result SurveyInputs ToolFault
survey_inputs_by rule layers box_json = do
  stack ← stack_in layers
  sets ← sets_in rule box_json
  Ok (record { stack = stack; sets = sets; rule = rule })

-- ---- the lines

-- the qualifiers of all rows, in the order of the coordinates
unfoldable pub qualifiers_text : FormOf → List LayerOf → List ℕ
qualifiers_text form stack = flat_map (λ c. qualifier_in form c (spread_of (numbers_at c (rows_in_stack stack)))) all_coords

-- those that the box lacks
unfoldable pub lacking_text : FormOf → SurveyInputs → List ℕ
lacking_text form inputs = flat_map (λ c. lacking_in form (lacks inputs.sets (rows_in_stack inputs.stack) c) c) all_coords

-- ---- the status

-- an answer can differ by what is in a layer
unfoldable pub layers_differ : LocaleRule → List LayerOf → List ℕ → List LayerBytes → Bool
layers_differ rule stack locales layers = list_any (layer_differs rule stack locales) (enumerate_from 0 layers)

-- the box lacks a qualifier
unfoldable pub lacks_some : SurveyInputs → Bool
lacks_some inputs = list_any (lacks inputs.sets (rows_in_stack inputs.stack)) all_coords

-- ---- the output

-- What is printed of layers and a box that were opened. It is done where nothing makes an answer differ.
unfoldable pub survey_answer : FormOf → List LayerBytes → SurveyInputs → Output
survey_answer form layers inputs = let locales = locales_of_box inputs.sets in let shared = shared_of (shared_ids inputs.stack) in record {
  status = negative_if (layers_differ inputs.rule inputs.stack locales layers || is_some shared || lacks_some inputs);
  text =
      layers_text form inputs.rule inputs.stack locales layers ++ (shared_in form shared ++ (qualifiers_text form inputs.stack ++ lacking_text form inputs));
}

-- what is printed of what layers and a box mean
abbrev pub surveyed : FormOf → List LayerBytes → Result SurveyInputs ToolFault → Result Output ToolFault
surveyed form layers (Ok inputs) = Ok (survey_answer form layers inputs)
surveyed form layers (Err (LayerTable place fault)) = refused_output form layers (LayerTable place fault)
surveyed form layers (Err fault) = Err fault

-- What `survey` prints in a form of these layers and a box's text, where locales are compared by this rule.
unfoldable pub survey_output_by : FormOf → LocaleRule → List LayerBytes → Option (List ℕ) → Result Output ToolFault
survey_output_by form rule layers box_json = surveyed form layers (survey_inputs_by rule layers box_json)
