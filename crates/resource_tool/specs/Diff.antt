-- What the words of `diff` ask, from what the places have to the answer. First come the words of files, then the faults of
-- inputs, and then the first word that asks for no resource.
use Rattle.std.specs.Prelude.{ℕ, List, Option, Result, Ok}
use Rattle.contract_words.specs.Faults.{◌>>=◌}
use Rattle.contract_words.specs.Sequences.{joined_each}
use Rattle.command_base.specs.json_input.Each.{each}
use Rattle.command_base.specs.declared.fault.ToolFault.{ToolFault}
use Rattle.command_base.specs.declared.side.Side.TheVariants.{Old, New}
use Rattle.command_base.specs.declared.status.Status.{Status}
use Rattle.command_base.specs.declared.stop.Stop.{Stop}
use Rattle.command_base.specs.CarriesOut.{CarriesOut, read_or_stop, found_or_stop}
use Rattle.command_base.specs.FilesSeen.{layers_held}
use Rattle.command_base.specs.FileWords.{set_asked, strings_held, texts_of, words_at}
use Rattle.command_base.specs.Inputs.{Places, file_of, layers_on_side}
use Rattle.command_base.specs.Output.{PrintsOneOf}
use Rattle.command_base.specs.StackBytes.{LayerBytes}
use Rattle.command_base.specs.Stop.{StopOf}
use Rattle.command_base.specs.names.NamedPairs.{pairs_named}
use Rattle.resource_text.specs.declared.line_form.LineForm.{LineForm}
use Rattle.stack_diff.specs.config_box.config_record.locales.declared.locale_rule.LocaleRule.{LocaleRule}
use Rattle.stack_diff.specs.names.Pairs.{PairOf, name_pairs}
use Rattle.resource_tool.specs.declared.diff.Diff.{Diff}
use Rattle.resource_tool.specs.declared.diff.DiffFiles.{DiffFiles}
use Rattle.resource_tool.specs.DiffInputs.{DiffInputs, diff_inputs_by}
use Rattle.resource_tool.specs.DiffOutput.{IsDiffOutput}

-- ---- the files

-- two stacks of layers, the bytes of a box, and the words of resources
pub record DiffBytes : Type 0 where
  pub old : List LayerBytes
  pub new : List LayerBytes
  pub box_json : List ℕ
  pub words : List (List ℕ)

abbrev pub diff_held : DiffFiles → DiffBytes
diff_held files = record { old = layers_held files.old; new = layers_held files.new; box_json = files.box_json.items; words = strings_held files.words }

-- the layers before a change, those after it, a box, and then the files of words
unfoldable pub diff_files : Places → List ℕ → List ℕ → List ℕ → List (List ℕ) → Result DiffBytes StopOf
diff_files places old_path new_path box_path words = do
  old ← layers_on_side Old places old_path
  new ← layers_on_side New places new_path
  box_json ← file_of places box_path
  words ← joined_each (words_at places) words
  Ok (record { old = old; new = new; box_json = box_json; words = words })

-- ---- the resources

-- two stacks and a box that were opened, and the resources that are asked for
pub record OpenDiffOf : Type 0 where
  pub opened : DiffInputs
  pub pairs : List PairOf

unfoldable pub opened_asked : List (List ℕ) → Result DiffInputs ToolFault → Result OpenDiffOf StopOf
opened_asked words read = do
  sets ← each set_asked words
  opened ← read_or_stop read
  let old = opened.stacks.old
  let new = opened.stacks.new
  pairs ← found_or_stop (pairs_named old new sets (name_pairs old new))
  Ok (record { opened = opened; pairs = pairs })

abbrev pub diff_opened : LocaleRule → List LayerBytes → List LayerBytes → List ℕ → List (List ℕ) → Result OpenDiffOf StopOf
diff_opened rule old new box_json words = opened_asked words (diff_inputs_by rule old new box_json)

-- ---- the answer

-- from what was opened, if it is
abbrev pub DiffsOpened : {W : Type 0} → (W → Option (List ℕ)) → W → W → LineForm → ℕ → Result OpenDiffOf StopOf → Result Status Stop → Type 0
DiffsOpened contents old new form max_nodes opened result =
    CarriesOut (λ diff done. PrintsOneOf (IsDiffOutput form diff.pairs max_nodes) contents old new done (Ok diff.opened)) opened result

-- from the files, if they are read
abbrev pub DiffsFiles : {W : Type 0} → (W → Option (List ℕ)) → W → W → Diff → Result DiffBytes StopOf → Result Status Stop → Type 0
DiffsFiles contents old new diff read result =
    DiffsOpened contents old new diff.form diff.max_nodes (read >>= λ files. diff_opened diff.locales files.old files.new files.box_json files.words) result

-- from what the places have
abbrev pub Diffs : {W : Type 0} → (W → Option (List ℕ)) → W → W → Places → Diff → Result Status Stop → Type 0
Diffs contents old new places diff result =
    DiffsFiles contents old new diff
    (diff_files places diff.old.now diff.new.now diff.box_path.now (texts_of diff.words)) result
