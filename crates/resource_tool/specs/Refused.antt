-- What is printed where a table is refused. A newer device may read it, and its chunks may tell why it is refused here.
use Rattle.std.specs.Prelude.{ℕ, Bool, false, List, [], ◌++◌, slice_get, Result, Ok, Err, if◌then◌else◌}
use Rattle.std.specs.Option.{option_map_or}
use Rattle.command_base.specs.cert_tree.config_box.config_record.locales.declared.locale_rule.LocaleRule.TheVariants.{LanguageAndRegion}
use Rattle.command_base.specs.declared.fault.ToolFault.{ToolFault}
use Rattle.command_base.specs.declared.fault.ToolFault.TheVariants.{LayerTable}
use Rattle.command_base.specs.declared.status.Status.TheVariants.{Negative}
use Rattle.command_base.specs.Output.{Output}
use Rattle.command_base.specs.StackBytes.{LayerBytes}
use Rattle.resource_tool.specs.Differs.{table_differs}
use Rattle.resource_tool.specs.LayersText.{layers_text}
use Rattle.resource_tool.specs.SurveyForm.{FormOf, refused_in}

-- an answer could differ by the chunks of a layer
abbrev pub chunks_differ : LayerBytes → Bool
chunks_differ layer = table_differs layer.table

-- the fault is that of a layer's table, and an answer could differ by the chunks of this layer
abbrev pub differs_where_refused : List LayerBytes → ToolFault → Bool
differs_where_refused layers (LayerTable place fault) = option_map_or chunks_differ (slice_get layers place) false
differs_where_refused layers fault = false

-- What the chunks of each layer have, and the fault. A stack without layers has no rows, whose locales a rule would compare.
unfoldable pub refused_text : FormOf → List LayerBytes → ToolFault → List ℕ
refused_text form layers fault = layers_text form LanguageAndRegion [] [] layers ++ refused_in form fault

-- that, where it may tell why; else the fault alone
unfoldable pub refused_output : FormOf → List LayerBytes → ToolFault → Result Output ToolFault
refused_output form layers fault =
    if differs_where_refused layers fault then Ok (record { status = Negative; text = refused_text form layers fault }) else Err fault
