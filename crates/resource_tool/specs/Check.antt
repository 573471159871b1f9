-- What the words of `check` ask, from what the places have to the answer. First come the words of files, then the faults of
-- inputs, and then the first word that asks for no resource.
use Rattle.std.specs.Prelude.{ℕ, ◌+◌, List, [], map, length, take, Option, Result, Ok, Err}
use Rattle.contract_words.specs.Faults.{◌>>=◌}
use Rattle.contract_words.specs.Sequences.{joined_each}
use Rattle.command_base.specs.json_input.Each.{each}
use Rattle.command_base.specs.declared.status.Status.{Status}
use Rattle.command_base.specs.declared.stop.Stop.{Stop}
use Rattle.command_base.specs.CarriesOut.{CarriesOut, read_or_stop, found_or_stop}
use Rattle.command_base.specs.FilesSeen.{layers_held, paths_held}
use Rattle.command_base.specs.FileWords.{goal_asked, strings_held, texts_of, words_at}
use Rattle.command_base.specs.Inputs.{Places, file_of}
use Rattle.command_base.specs.StackBytes.{LayerBytes}
use Rattle.command_base.specs.Stop.{StopOf}
use Rattle.command_base.specs.names.NamedGoals.{goals_named}
use Rattle.command_base.specs.answer_text.config_record.locales.declared.locale_rule.LocaleRule.{LocaleRule}
use Rattle.resource_text.specs.cert_maker.res_value.Goal.{GoalSeen, goal_seen}
use Rattle.resource_tool.specs.declared.check.Check.{Check}
use Rattle.resource_tool.specs.declared.check.CheckFiles.{CheckFiles}
use Rattle.resource_tool.specs.declared.check.OpenCheck.{OpenCheck}
use Rattle.resource_tool.specs.Answered.{PrintsBothOneOf}
use Rattle.resource_tool.specs.BoxFiles.{box_files}
use Rattle.resource_tool.specs.CheckOutput.{CheckInputs, IsCheckAnswer, TellingOf, check_inputs_by}
use Rattle.resource_tool.specs.OpenedSeen.{opened_cert}

-- ---- the files

-- layers with the paths of their tables, the bytes of a box and of a certificate, and the words of goals
pub record CheckBytes : Type 0 where
  pub layers : List LayerBytes
  pub paths : List (List ℕ)
  pub box_json : List ℕ
  pub certificate : List ℕ
  pub words : List (List ℕ)

abbrev pub check_held : CheckFiles → CheckBytes
check_held files = record {
  layers = layers_held files.layers;
  paths = paths_held files.layers;
  box_json = files.box_json.items;
  certificate = files.certificate.items;
  words = strings_held files.words;
}

-- the paths of the tables of layers that are read
abbrev pub paths_checked : Result CheckBytes StopOf → List (List ℕ)
paths_checked (Ok files) = files.paths
paths_checked (Err stop) = []

-- layers, a box, a certificate, and then the files of words
unfoldable pub check_files : Places → List ℕ → List ℕ → List ℕ → List (List ℕ) → Result CheckBytes StopOf
check_files places layers_path box_path certificate_path words = do
  files ← box_files places layers_path box_path
  certificate ← file_of places certificate_path
  words ← joined_each (words_at places) words
  Ok (record { layers = files.layers; paths = files.paths; box_json = files.box_json; certificate = certificate; words = words })

-- ---- the goals

-- layers, a box and a certificate that were opened, and the goals that are asked for
pub record OpenCheckOf : Type 0 where
  pub opened : CheckInputs
  pub goals : List GoalSeen

abbrev pub check_seen : OpenCheck → OpenCheckOf
check_seen check = record { opened = opened_cert check.opened; goals = map goal_seen check.goals.items }

unfoldable pub check_opened : LocaleRule → List LayerBytes → List ℕ → List ℕ → List (List ℕ) → Result OpenCheckOf StopOf
check_opened rule layers box_json certificate words = do
  named ← each goal_asked words
  opened ← read_or_stop (check_inputs_by rule layers box_json certificate)
  goals ← found_or_stop (goals_named opened.stack named)
  Ok (record { opened = opened; goals = goals })

-- the first goals alone, at most one more than the certificate has trees
abbrev pub with_first : OpenCheckOf → OpenCheckOf
with_first check = record { opened = check.opened; goals = take (length check.opened.trees + 1) check.goals }

-- what was opened, with the first goals alone
abbrev pub first_opened : Result OpenCheckOf StopOf → Result OpenCheckOf StopOf
first_opened meant = meant >>= λ check. Ok (with_first check)

-- ---- the answer

-- how a verdict is told, where the tables of the layers lie at these paths
abbrev pub telling_of : Check → List (List ℕ) → TellingOf
telling_of check paths = record { names = check.names; all = check.all; form = check.form; paths = paths }

-- from the files, if they are read
abbrev pub ChecksFiles : {W V : Type 0} → (W → Option (List ℕ)) → (V → Option (List ℕ)) → W → W → V → V → Check → Result CheckBytes StopOf → Result Status Stop → Type 0
ChecksFiles contents says old new before after check read result =
    CarriesOut (λ asked done. PrintsBothOneOf (IsCheckAnswer asked.goals (telling_of check (paths_checked read))) contents says old new before after done (Ok asked.opened))
    (read >>= λ files. check_opened check.locales files.layers files.box_json files.certificate files.words) result

-- from what the places have
abbrev pub Checks : {W V : Type 0} → (W → Option (List ℕ)) → (V → Option (List ℕ)) → W → W → V → V → Places → Check → Result Status Stop → Type 0
Checks contents says old new before after places check result =
    ChecksFiles contents says old new before after check
    (check_files places check.layers.now check.box_path.now check.certificate.now (texts_of check.goals)) result
