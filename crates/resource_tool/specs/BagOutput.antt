-- What the command `bag` prints, and what its words ask.
use Rattle.std.specs.Prelude.{ℕ, Bool, false, List, [], ◌∷◌, ◌++◌, codes, Option, Some, None, Result, Ok, Err}
use Rattle.std.specs.List.{flat_map}
use Rattle.std.specs.Option.{option_map_or}
use Rattle.contract_words.specs.Faults.{◌>>=◌}
use Rattle.command_base.specs.overlay_map.Layer.{LayerOf}
use Rattle.command_base.specs.answer_text.NameText.{name_beside}
use Rattle.command_base.specs.answer_text.res_value.ResId.{id_text}
use Rattle.command_base.specs.answer_text.res_value.ValueText.{value_text}
use Rattle.command_base.specs.answer_text.bag_rows.declared.bag_row.BagRow.{BagRow}
use Rattle.command_base.specs.answer_text.bags_themes.declared.bag_fault.BagFault.{BagFault}
use Rattle.command_base.specs.answer_text.bags_themes.declared.bag_fault.BagFault.TheVariants as of_bag
use Rattle.command_base.specs.answer_text.bags_themes.Bag.{bag_of}
use Rattle.command_base.specs.answer_text.LayerText.{layer_text}
use Rattle.resource_text.specs.notation.declared.form.Form.TheVariants.{Raw, Android}
use Rattle.resource_text.specs.declared.line_form.LineForm.{LineForm}
use Rattle.resource_text.specs.declared.line_form.LineForm.TheVariants.{Text, Json}
use Rattle.resource_text.specs.Naming.{NamingOf}
use Rattle.resource_text.specs.BagJson.{rows_json}
use Rattle.resource_text.specs.BagNotation.{rows_told}
use Rattle.command_base.specs.declared.fault.ToolFault.{ToolFault}
use Rattle.command_base.specs.declared.status.Status.{Status}
use Rattle.command_base.specs.declared.status.Status.TheVariants.{Done, Negative}
use Rattle.command_base.specs.declared.stop.Stop.{Stop}
use Rattle.command_base.specs.CarriesOut.{CarriesOut}
use Rattle.command_base.specs.DeviceFiles.{DeviceBytes, device_files, paths_read}
use Rattle.command_base.specs.Inputs.{Places}
use Rattle.command_base.specs.Output.{Output, Prints}
use Rattle.command_base.specs.StackBytes.{LayerBytes}
use Rattle.command_base.specs.Stop.{StopOf}
use Rattle.command_base.specs.names.Named.{named_of}
use Rattle.resource_tool.specs.declared.bag.Bag.{Bag}
use Rattle.resource_tool.specs.Opened.{OpenedOf, OpenIdOf, opened_in, id_opened}

-- `ID layer L`; the id is followed by its name, where names are asked for
unfoldable pub id_and_layer : List LayerOf → Bool → ℕ → ℕ → List ℕ
id_and_layer stack names id layer = id_text id ++ name_beside stack id names ++ codes " " ++ layer_text layer

-- the line of a row, `ID layer L VALUE`
unfoldable pub bag_row_line : List LayerOf → Bool → BagRow → List ℕ
bag_row_line stack names row = id_and_layer stack names row.name.0 row.layer ++ codes " " ++ value_text row.value ++ 10 ∷ []

-- why there is no bag; want of memory is the command's own fault and has no name
abbrev pub reason_of : BagFault → Option (List ℕ)
reason_of of_bag.Absent = Some (codes "Absent")
reason_of of_bag.Plain = Some (codes "Plain")
reason_of of_bag.BagDepth = Some (codes "BagDepth")
reason_of of_bag.OutOfMemory = None

-- the line `no bag FAULT`
unfoldable pub no_bag_line : List ℕ → List ℕ
no_bag_line fault = codes "no bag " ++ fault ++ 10 ∷ []

abbrev pub no_bag : BagFault → Output
no_bag fault = record { status = Negative; text = option_map_or no_bag_line (reason_of fault) [] }

-- a line for each row, or why there are none
abbrev pub rows_or_reason : List LayerOf → Bool → Result (List BagRow) BagFault → Output
rows_or_reason stack names (Ok rows) = record { status = Done; text = flat_map (bag_row_line stack names) rows }
rows_or_reason stack names (Err fault) = no_bag fault

-- What `bag` prints of layers and a device that were opened. Where names are asked for, they stand beside the ids.
abbrev pub bag_answer : OpenedOf → ℕ → Bool → Output
bag_answer asked id names = rows_or_reason asked.stack names (bag_of asked.stack id asked.device)

-- The same in Android's notation, where the tables of the layers lie at these paths.

abbrev pub told_or_reason : NamingOf → ℕ → Result (List BagRow) BagFault → Output
told_or_reason naming id (Ok rows) = record { status = Done; text = rows_told naming id rows }
told_or_reason naming id (Err fault) = no_bag fault

abbrev pub bag_in_notation : OpenedOf → List (List ℕ) → ℕ → Output
bag_in_notation asked paths id = told_or_reason (record { stack = asked.stack; paths = paths }) id (bag_of asked.stack id asked.device)

-- The same as lines of JSON.

-- the line of why there is no bag
unfoldable pub no_bag_json_line : List ℕ → List ℕ
no_bag_json_line fault = codes "{\"fault\":\"" ++ fault ++ codes "\",\"line\":\"no bag\"}" ++ 10 ∷ []

abbrev pub no_bag_json : BagFault → Output
no_bag_json fault = record { status = Negative; text = option_map_or no_bag_json_line (reason_of fault) [] }

abbrev pub json_or_reason : NamingOf → ℕ → Result (List BagRow) BagFault → Output
json_or_reason naming id (Ok rows) = record { status = Done; text = rows_json naming id rows }
json_or_reason naming id (Err fault) = no_bag_json fault

abbrev pub bag_in_json : OpenedOf → List (List ℕ) → ℕ → Output
bag_in_json asked paths id = json_or_reason (record { stack = asked.stack; paths = paths }) id (bag_of asked.stack id asked.device)

-- What `bag` prints of these layers, a device's text and this id, without names.
unfoldable pub bag_output : List LayerBytes → List ℕ → ℕ → Result Output ToolFault
bag_output layers device_json id = do
  asked ← opened_in layers device_json
  Ok (bag_answer asked id false)

-- ---- what its words ask

-- in a form, with or without names, where the tables of the layers lie at these paths
abbrev pub bag_in : LineForm → Bool → List (List ℕ) → OpenIdOf → Output
bag_in (Text Raw) names paths asked = bag_answer asked.opened asked.id.0 names
bag_in (Text Android) names paths asked = bag_in_notation asked.opened paths asked.id.0
bag_in Json names paths asked = bag_in_json asked.opened paths asked.id.0

-- what is printed
abbrev pub bag_printed : Bag → List (List ℕ) → OpenIdOf → Output
bag_printed bag paths asked = bag_in bag.form bag.names paths asked

-- the answer from the files, if they are read
abbrev pub PrintsBagFiles : {W : Type 0} → (W → Option (List ℕ)) → W → W → Bag → Result DeviceBytes StopOf → Result Status Stop → Type 0
PrintsBagFiles contents old new bag read result =
    CarriesOut (λ asked done. Prints contents old new done (Ok (bag_printed bag (paths_read read) asked)))
    (read >>= λ files. id_opened bag.locales files.layers files.device (named_of bag.resource)) result

-- the answer from what the places have
abbrev pub PrintsBag : {W : Type 0} → (W → Option (List ℕ)) → W → W → Places → Bag → Result Status Stop → Type 0
PrintsBag contents old new places bag result =
    PrintsBagFiles contents old new bag (device_files places bag.layers.now bag.device.now) result
