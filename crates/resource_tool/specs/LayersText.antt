-- What is found in the layers of a stack, as lines.
use Rattle.std.specs.Prelude.{ℕ, List}
use Rattle.std.specs.List.{flat_map, enumerate_from}
use Rattle.command_base.specs.cert_tree.config_box.config_record.locales.declared.locale_rule.LocaleRule.{LocaleRule}
use Rattle.command_base.specs.overlay_map.Layer.{LayerOf}
use Rattle.command_base.specs.StackBytes.{LayerBytes}
use Rattle.resource_tool.specs.LayerNotes.{notes_of_layer}
use Rattle.resource_tool.specs.SurveyForm.{FormOf, notes_in}

-- what is found in the layer of these bytes at a place
unfoldable pub layer_lines : FormOf → LocaleRule → List LayerOf → List ℕ → (ℕ × LayerBytes) → List ℕ
layer_lines form rule stack locales numbered = notes_in form numbered.0 (notes_of_layer rule stack locales numbered)

-- what is found in each layer, where locales are compared by this rule, and these are those of the box
unfoldable pub layers_text : FormOf → LocaleRule → List LayerOf → List ℕ → List LayerBytes → List ℕ
layers_text form rule stack locales layers = flat_map (layer_lines form rule stack locales) (enumerate_from 0 layers)
