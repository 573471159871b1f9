-- What the commands print that are asked for one table, `rows` and `dump`, or for layers alone, `ids`, and what their words ask.
use Rattle.std.specs.Prelude.{ℕ, Bool, ◌++◌, ◌∷◌, [], List, None, Option, Result, Ok, Err, if◌then◌else◌}
use Rattle.command_base.specs.answer_text.type_chunks.type_entries.declared.fault.TableFault.{TableFault}
use Rattle.command_base.specs.answer_text.overlay_map.Table.{TableOf, table_in}
use Rattle.command_base.specs.answer_text.RowsText.{rows_text}
use Rattle.resource_text.specs.TableNotation.{rows_notation, dump_notation}
use Rattle.command_base.specs.answer_text.DumpText.{dump_text}
use Rattle.command_base.specs.declared.fault.ToolFault.{ToolFault}
use Rattle.command_base.specs.ToolFault.{fault_of_table}
use Rattle.command_base.specs.declared.status.Status.{Status}
use Rattle.command_base.specs.declared.status.Status.TheVariants.{Done}
use Rattle.command_base.specs.declared.stop.Stop.{Stop}
use Rattle.command_base.specs.CarriesOut.{CarriesOut}
use Rattle.command_base.specs.Inputs.{Places, layers_of, table_of}
use Rattle.command_base.specs.Output.{Output, Prints}
use Rattle.resource_tool.specs.declared.rows.Rows.{Rows}
use Rattle.resource_tool.specs.declared.dump.Dump.{Dump}
use Rattle.std.specs.List.{flat_map}
use Rattle.contract_words.specs.Faults.{◌>>=◌}
use Rattle.command_base.specs.answer_text.NameText.{its_name}
use Rattle.command_base.specs.answer_text.res_value.ResId.{id_text}
use Rattle.command_base.specs.answer_text.res_value.declared.res_id.ResId.{ResId}
use Rattle.command_base.specs.overlay_map.Layer.{LayerOf, base_tables}
use Rattle.command_base.specs.StackBytes.{LayerBytes, stack_in}
use Rattle.command_base.specs.names.IdsOfType.{ids_of_type}
use Rattle.resource_tool.specs.declared.ids.Ids.{Ids}

-- a text of the table, or its first fault
abbrev pub output_of : (TableOf → List ℕ) → Result TableOf TableFault → Result Output ToolFault
output_of text (Ok table) = Ok (record { status = Done; text = text table })
output_of text (Err fault) = Err (fault_of_table fault)

-- what `rows` prints of a table's bytes
abbrev pub rows_output : List ℕ → Result Output ToolFault
rows_output bytes = output_of rows_text (table_in bytes)

-- what `dump` prints of a table's bytes
abbrev pub dump_output : List ℕ → Result Output ToolFault
dump_output bytes = output_of dump_text (table_in bytes)

-- the same, where they may be asked for in Android's notation

abbrev pub rows_printed : Bool → List ℕ → Result Output ToolFault
rows_printed android bytes = if android then output_of rows_notation (table_in bytes) else rows_output bytes

abbrev pub dump_printed : Bool → List ℕ → Result Output ToolFault
dump_printed android bytes = if android then output_of dump_notation (table_in bytes) else dump_output bytes

-- ---- the ids of base layers

-- an id, and behind it the names of the first row that it has in a base layer
abbrev pub id_line : List LayerOf → ResId → List ℕ
id_line stack id = id_text id.0 ++ its_name stack id.0 ++ 10 ∷ []

abbrev pub ids_text : List LayerOf → List ResId → List ℕ
ids_text stack ids = flat_map (id_line stack) ids

-- a line for each id that base layers have rows of, in rising order
abbrev pub listed_ids : List LayerOf → Output
listed_ids stack = record { status = Done; text = ids_text stack (ids_of_type None (base_tables stack)) }

-- what `ids` prints of these layers
unfoldable pub ids_output : List LayerBytes → Result Output ToolFault
ids_output layers = do
  stack ← stack_in layers
  Ok (listed_ids stack)

-- ---- what their words ask, from what the places have

abbrev pub PrintsRows : {W : Type 0} → (W → Option (List ℕ)) → W → W → Places → Rows → Result Status Stop → Type 0
PrintsRows contents old new places rows result =
    CarriesOut (λ bytes done. Prints contents old new done (rows_printed rows.android bytes)) (table_of places rows.table.now) result

abbrev pub PrintsDump : {W : Type 0} → (W → Option (List ℕ)) → W → W → Places → Dump → Result Status Stop → Type 0
PrintsDump contents old new places dump result =
    CarriesOut (λ bytes done. Prints contents old new done (dump_printed dump.android bytes)) (table_of places dump.table.now) result

abbrev pub ListsIds : {W : Type 0} → (W → Option (List ℕ)) → W → W → Places → Ids → Result Status Stop → Type 0
ListsIds contents old new places ids result =
    CarriesOut (λ layers done. Prints contents old new done (ids_output layers)) (layers_of places ids.layers.now) result
