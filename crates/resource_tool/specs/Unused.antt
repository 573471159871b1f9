-- What the words of `unused` ask, from what the places have to the answer. First come the words of
-- files, then the faults of inputs, and then the first name that no resource has.
use Rattle.std.specs.Prelude.{◌≡◌, ℕ, List, [], ◌∷◌, map, Option, Some, None, option_map, IfSome, Result, Ok}
use Rattle.contract_words.specs.Faults.{◌>>=◌}
use Rattle.command_base.specs.json_input.Each.{each}
use Rattle.command_base.specs.declared.status.Status.{Status}
use Rattle.command_base.specs.declared.stop.Stop.{Stop}
use Rattle.command_base.specs.CarriesOut.{CarriesOut, read_or_stop, found_or_stop}
use Rattle.command_base.specs.FileWords.{set_asked, texts_of}
use Rattle.command_base.specs.Inputs.{Places}
use Rattle.command_base.specs.Output.{Output, PrintsOneOf}
use Rattle.command_base.specs.Stop.{StopOf}
use Rattle.command_base.specs.overlay_map.Layer.{LayerOf}
use Rattle.stack_diff.specs.Parting.{IsWithin}
use Rattle.stack_diff.specs.RowUses.{AreUses}
use Rattle.stack_diff.specs.cert_maker.res_value.declared.res_id.ResId.{ResId}
use Rattle.stack_diff.specs.config_box.config_record.locales.declared.locale_rule.LocaleRule.{LocaleRule}
use Rattle.stack_diff.specs.names.NameFault.{NameFaultOf}
use Rattle.stack_diff.specs.names.NamedIds.{ids_named}
use Rattle.stack_diff.specs.names.NamedSet.{NamedSetOf}
use Rattle.resource_text.specs.declared.line_form.LineForm.{LineForm}
use Rattle.resource_tool.specs.declared.unused.Unused.{Unused}
use Rattle.resource_tool.specs.BoxFiles.{AskedBoxBytes, asked_box_files}
use Rattle.resource_tool.specs.DiffInputs.{DiffInputs}
use Rattle.resource_tool.specs.UnusedOutput.{Uses, unused_output}
use Rattle.resource_tool.specs.Values.{values_inputs_by}

-- ---- the resources

-- the ids that words ask for; without words all rows are asked for
abbrev pub ids_asked : List LayerOf → List NamedSetOf → Result (Option (List ResId)) NameFaultOf
ids_asked stack [] = Ok None
ids_asked stack (set ∷ sets) = ids_named stack (set ∷ sets) >>= λ ids. Ok (Some ids)

-- layers and a box that were opened, the paths of the tables, and the ids that are asked for
pub record OpenUnusedOf : Type 0 where
  pub opened : DiffInputs
  pub paths : List (List ℕ)
  pub asked : Option (List ResId)

unfoldable pub unused_opened : LocaleRule → AskedBoxBytes → Result OpenUnusedOf StopOf
unused_opened rule files = do
  sets ← each set_asked files.words
  opened ← read_or_stop (values_inputs_by rule files.layers files.box_json)
  asked ← found_or_stop (ids_asked opened.stacks.new sets)
  Ok (record { opened = opened; paths = files.paths; asked = asked })

-- ---- the answer

abbrev pub numbers_of : Option (List ResId) → Option (List ℕ)
numbers_of asked = option_map (map (λ id. id.0)) asked

-- What is printed tells what becomes of the rows of the layers that are asked for, on the devices of the box, with trees within the
-- limit, in a form, where the tables lie at these paths; or the trees that part these have more nodes.
pub record IsUnusedOutput (form : LineForm) (paths : List (List ℕ)) (asked : Option (List ResId)) (most : ℕ) (inputs : DiffInputs) (output : Output) : Type 0 where
  pub uses : Option (List Uses)
  pub right : IfSome uses (AreUses inputs.stacks.new inputs.sets (numbers_of asked))
  pub within : IsWithin inputs.stacks.new inputs.sets (numbers_of asked) most uses
  pub printed : output ≡ unused_output form paths inputs.stacks.new uses

-- from what was opened, if it is
abbrev pub UnusedOpened : {W : Type 0} → (W → Option (List ℕ)) → W → W → LineForm → ℕ → Result OpenUnusedOf StopOf → Result Status Stop → Type 0
UnusedOpened contents old new form most opened result =
    CarriesOut (λ unused done. PrintsOneOf (IsUnusedOutput form unused.paths unused.asked most) contents old new done (Ok unused.opened)) opened result

-- from the files, if they are read
abbrev pub TellsUnusedOf : {W : Type 0} → (W → Option (List ℕ)) → W → W → Unused → Result AskedBoxBytes StopOf → Result Status Stop → Type 0
TellsUnusedOf contents old new unused read result =
    UnusedOpened contents old new unused.form unused.max_nodes (read >>= unused_opened unused.locales) result

-- from what the places have
abbrev pub TellsUnused : {W : Type 0} → (W → Option (List ℕ)) → W → W → Places → Unused → Result Status Stop → Type 0
TellsUnused contents old new places unused result =
    TellsUnusedOf contents old new unused (asked_box_files places unused.layers.now unused.box_path.now (texts_of unused.words)) result
